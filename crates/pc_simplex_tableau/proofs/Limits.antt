-- The least limit of a column leaves room for it.
use Rattle.std.proofs.Common.{◌≡◌, ℕ, zero, suc, ◌<◌, ◌≤◌, Bool, true, false, cond, not, ◌&&◌, ◌||◌, nat_lt, length, refl, sym, subst, ◌∙◌, arith, Option, Some, None, MatchOption, true≢false}
use Rattle.std.specs.Prelude.{⊤, ℤ, pos, neg_ℤ, int_lt, ◌-ℤ◌, ◌*ℤ◌, ◌<ℤ◌, ◌≤ℤ◌}
use Rattle.std.proofs.lemmas.Int.{ints, by_lt_z}
use Rattle.std.proofs.Math.IntN.{*ℤ_comm}
use Rattle.pc_program_bound.specs.Sums.{nat_at}
use Rattle.pc_program_bound.proofs.Ring.{mul_assoc, mul_mono, mul_anti}
use Rattle.pc_simplex_tableau.specs.Tableau.{Tableau, Columns, row_at, is_helper, range_of, Way, turning, pivoting, turning_and_pivoting, Limit, is_after, lesser, lower_limit, upper_limit, with_row, least_limit, deciding}
use Rattle.pc_simplex_tableau.specs.Standing.{entry_at, basic_at, value_at, IsFeasible, HasRoom}
use Rattle.pc_simplex_tableau.proofs.Products.{mul-zero, one-mul, mul_swap, mul_not_negative, le_cancel}
use Rattle.pc_simplex_tableau.proofs.Pivots.{by_same}

-- ---- the lesser of two limits

abbrev pub IsUnder : Limit → Limit → Type 0
IsUnder a b = (a.over *ℤ b.under) ≤ℤ (b.over *ℤ a.under)

after_true : (x y : ℤ) (p q rest : Bool) → int_lt y x ≡ p → int_lt x y ≡ q → (p || not q && rest) ≡ true → y ≤ℤ x
after_true x y true q rest e d h = omega (arith, ints)
after_true x y false true rest e d h = absurd (true≢false (sym h))
after_true x y false false rest e d h = omega (arith, ints)

after_false : (x y : ℤ) (p : Bool) (rest : Bool) → int_lt y x ≡ p → (p || rest) ≡ false → x ≤ℤ y
after_false x y true rest e h = absurd (true≢false h)
after_false x y false rest e h = omega (arith, ints)

pub lesser_by : (P : Limit → Type 0) (a b : Limit) → (IsUnder a b → P a) → (IsUnder b a → P b) → P (lesser a b)
lesser_by P a b first second = by (is_after a b) refl
  where
    x : ℤ
    x = a.over *ℤ b.under

    y : ℤ
    y = b.over *ℤ a.under

    by : (test : Bool) → is_after a b ≡ test → P (cond test b a)
    by true e = second (after_true (a.over *ℤ b.under) (b.over *ℤ a.under) (int_lt (b.over *ℤ a.under) (a.over *ℤ b.under))
        (int_lt (a.over *ℤ b.under) (b.over *ℤ a.under)) (nat_lt b.column a.column) refl refl e)
    by false e = first (after_false (a.over *ℤ b.under) (b.over *ℤ a.under) (int_lt (b.over *ℤ a.under) (a.over *ℤ b.under))
        (not (int_lt (a.over *ℤ b.under) (b.over *ℤ a.under)) && nat_lt b.column a.column) refl e)

-- ---- room at a limit is room at a lower one

-- a factor that is not positive asks for nothing
pub at_none : (s m v q : ℤ) → s ≤ℤ pos 0 → pos 0 ≤ℤ v → pos 0 <ℤ q → pos 0 ≤ℤ m → (s *ℤ v) ≤ℤ (q *ℤ m)
at_none s m v q falls risen positive some =
    let less : (s *ℤ v) ≤ℤ (s *ℤ pos 0) = mul_anti s (pos 0) v falls risen in
    let none = mul-zero s in
    let more = mul_not_negative q m (omega (arith, ints)) some in
    omega (arith, ints, less, none, more)

pub at_lower : (s m v q w o : ℤ) → pos 0 <ℤ q → pos 0 <ℤ o → pos 0 ≤ℤ w → pos 0 ≤ℤ m → (w *ℤ q) ≤ℤ (v *ℤ o) → (s *ℤ v) ≤ℤ (q *ℤ m)
    → (s *ℤ w) ≤ℤ (o *ℤ m)
at_lower s m v q w o positive also risen some less room = by_lt_z (pos 0) s rises (λ falls. at_none s m w o falls risen also some)
  where
    rises : pos 0 <ℤ s → (s *ℤ w) ≤ℤ (o *ℤ m)
    rises above =
        let first : (s *ℤ (w *ℤ q)) ≤ℤ (s *ℤ (v *ℤ o)) = mul_mono s (w *ℤ q) (v *ℤ o) (omega (arith, ints)) less in
        let second : (o *ℤ (s *ℤ v)) ≤ℤ (o *ℤ (q *ℤ m)) = mul_mono o (s *ℤ v) (q *ℤ m) (omega (arith, ints)) room in
        let left : s *ℤ (w *ℤ q) ≡ q *ℤ (s *ℤ w) = sym (mul_assoc s w q) ∙ *ℤ_comm (s *ℤ w) q in
        let middle : s *ℤ (v *ℤ o) ≡ o *ℤ (s *ℤ v) = sym (mul_assoc s v o) ∙ *ℤ_comm (s *ℤ v) o in
        let right = mul_swap o q m in
        le_cancel q (s *ℤ w) (o *ℤ m) positive (omega (arith, ints, first, second, left, middle, right))

-- where there is a range, two facts give a third
pub in_range : (range : Option ℕ) (P Q R : ℕ → Type 0) → ((u : ℕ) → P u → Q u → R u) → MatchOption range ⊤ P → MatchOption range ⊤ Q → MatchOption range ⊤ R
in_range None P Q R both p q = tt
in_range (Some u) P Q R both p q = both u p q

-- ---- the room of the first n rows

pub record HasRoomBelow (f : Columns) (c : ℕ) (t : Tableau) (n : ℕ) (v q : ℤ) : Type 0 where
  pub positive : pos 0 <ℤ q
  pub risen : pos 0 ≤ℤ v
  pub own : v ≤ℤ (q *ℤ pos (nat_at f.ranges c))
  pub low : (r : ℕ) → r < n → (entry_at t r c *ℤ v) ≤ℤ (q *ℤ value_at f t r)
  pub high : (r : ℕ) → r < n → MatchOption (range_of f (basic_at t r)) ⊤
      (λ u. (neg_ℤ (entry_at t r c) *ℤ v) ≤ℤ (q *ℤ (entry_at t r (basic_at t r) *ℤ pos u -ℤ value_at f t r)))

-- what a limit of the first n rows is, by what its step does
abbrev pub IsOfWay : Columns → ℕ → Tableau → ℕ → Limit → Way → Type 0
IsOfWay f c t n limit turning = (limit.over ≡ pos (nat_at f.ranges c)) × (limit.under ≡ pos 1)
IsOfWay f c t n limit (pivoting r) = (r < n) × (limit.over ≡ value_at f t r) × (limit.under ≡ entry_at t r c)
IsOfWay f c t n limit (turning_and_pivoting r) = (r < n) × (limit.column ≡ basic_at t r) × (u : ℕ) × (range_of f (basic_at t r) ≡ Some u)
    × (limit.over ≡ entry_at t r (basic_at t r) *ℤ pos u -ℤ value_at f t r) × (limit.under ≡ neg_ℤ (entry_at t r c))

pub record IsLimit (f : Columns) (c : ℕ) (t : Tableau) (n : ℕ) (limit : Limit) : Type 0 where
  pub room : HasRoomBelow f c t n limit.over limit.under
  pub way : IsOfWay f c t n limit limit.way

way_kept : (f : Columns) (c : ℕ) (t : Tableau) (n : ℕ) (limit : Limit) (way : Way) → IsOfWay f c t n limit way → IsOfWay f c t (suc n) limit way
way_kept f c t n limit turning h = h
way_kept f c t n limit (pivoting r) h = (omega (arith, h.0), h.1, h.2)
way_kept f c t n limit (turning_and_pivoting r) h = (omega (arith, h.0), h.1, h.2, h.3, h.4, h.5)

module _ (f : Columns) (c : ℕ) (t : Tableau) (feasible : IsFeasible f t) where
  -- what the row after them asks for
  abbrev IsLow : ℕ → ℤ → ℤ → Type 0
  IsLow r v q = (entry_at t r c *ℤ v) ≤ℤ (q *ℤ value_at f t r)

  abbrev IsHigh : ℕ → ℤ → ℤ → Type 0
  IsHigh r v q = MatchOption (range_of f (basic_at t r)) ⊤
      (λ u. (neg_ℤ (entry_at t r c) *ℤ v) ≤ℤ (q *ℤ (entry_at t r (basic_at t r) *ℤ pos u -ℤ value_at f t r)))

  low_lower : (r : ℕ) (v q w o : ℤ) → r < length t.rows → pos 0 <ℤ q → pos 0 <ℤ o → pos 0 ≤ℤ w → (w *ℤ q) ≤ℤ (v *ℤ o) → IsLow r v q → IsLow r w o
  low_lower r v q w o lt positive also risen less room =
      at_lower (entry_at t r c) (value_at f t r) v q w o positive also risen (feasible.low r lt) less room

  high_lower : (r : ℕ) (v q w o : ℤ) → r < length t.rows → pos 0 <ℤ q → pos 0 <ℤ o → pos 0 ≤ℤ w → (w *ℤ q) ≤ℤ (v *ℤ o) → IsHigh r v q → IsHigh r w o
  high_lower r v q w o lt positive also risen less room =
      in_range (range_of f (basic_at t r))
      (λ u. value_at f t r ≤ℤ (entry_at t r (basic_at t r) *ℤ pos u))
      (λ u. (neg_ℤ (entry_at t r c) *ℤ v) ≤ℤ (q *ℤ (entry_at t r (basic_at t r) *ℤ pos u -ℤ value_at f t r)))
      (λ u. (neg_ℤ (entry_at t r c) *ℤ w) ≤ℤ (o *ℤ (entry_at t r (basic_at t r) *ℤ pos u -ℤ value_at f t r)))
      (λ u within there. at_lower (neg_ℤ (entry_at t r c)) (entry_at t r (basic_at t r) *ℤ pos u -ℤ value_at f t r) v q w o positive also risen
      (omega (arith, ints, within)) less there)
      (feasible.high r lt) room

  high_none : (r : ℕ) (v q : ℤ) → r < length t.rows → pos 0 <ℤ q → pos 0 ≤ℤ v → pos 0 ≤ℤ entry_at t r c → IsHigh r v q
  high_none r v q lt positive risen some =
      in_range (range_of f (basic_at t r))
      (λ u. value_at f t r ≤ℤ (entry_at t r (basic_at t r) *ℤ pos u))
      (λ u. value_at f t r ≤ℤ (entry_at t r (basic_at t r) *ℤ pos u))
      (λ u. (neg_ℤ (entry_at t r c) *ℤ v) ≤ℤ (q *ℤ (entry_at t r (basic_at t r) *ℤ pos u -ℤ value_at f t r)))
      (λ u within same. at_none (neg_ℤ (entry_at t r c)) (entry_at t r (basic_at t r) *ℤ pos u -ℤ value_at f t r) v q (omega (arith, ints, some)) risen positive
      (omega (arith, ints, within)))
      (feasible.high r lt) (feasible.high r lt)

  low_none : (r : ℕ) (v q : ℤ) → r < length t.rows → pos 0 <ℤ q → pos 0 ≤ℤ v → entry_at t r c ≤ℤ pos 0 → IsLow r v q
  low_none r v q lt positive risen none = at_none (entry_at t r c) (value_at f t r) v q none risen positive (feasible.low r lt)

  -- ---- one more row
  with_last : (n : ℕ) (v q : ℤ) → HasRoomBelow f c t n v q → IsLow n v q → IsHigh n v q → HasRoomBelow f c t (suc n) v q
  with_last n v q room low high = record {
    positive = room.positive;
    risen = room.risen;
    own = room.own;
    low = λ r lt. by_same r n (λ e. subst (λ k. IsLow k v q) (sym e) low) (λ ne. room.low r (omega (arith, lt, ne)));
    high = λ r lt. by_same r n (λ e. subst (λ k. IsHigh k v q) (sym e) high) (λ ne. room.high r (omega (arith, lt, ne)));
  }

  lower : (n : ℕ) (v q w o : ℤ) → n ≤ length t.rows → HasRoomBelow f c t n v q → pos 0 <ℤ o → pos 0 ≤ℤ w → (w *ℤ q) ≤ℤ (v *ℤ o) → HasRoomBelow f c t n w o
  lower n v q w o le room also risen less = record {
    positive = also;
    risen = risen;
    own = (let first = at_lower (pos 1) (pos (nat_at f.ranges c)) v q w o room.positive also risen (omega (arith, ints)) less (rw (one-mul v) room.own) in rw (one-mul w) at first);
    low = λ r lt. low_lower r v q w o (omega (arith, lt, le)) room.positive also risen less (room.low r lt);
    high = λ r lt. high_lower r v q w o (omega (arith, lt, le)) room.positive also risen less (room.high r lt);
  }

  -- ---- the lesser of a limit and that of one more row
  lesser_room : (n : ℕ) (limit other : Limit) → n < length t.rows → IsLimit f c t n limit → pos 0 <ℤ other.under → pos 0 ≤ℤ other.over
      → IsLow n other.over other.under → IsHigh n other.over other.under → IsOfWay f c t (suc n) other other.way → IsLimit f c t (suc n) (lesser limit other)
  lesser_room n limit other lt h positive risen low high way = lesser_by (IsLimit f c t (suc n)) limit other first second
    where
      first : IsUnder limit other → IsLimit f c t (suc n) limit
      first under = record {
        room = with_last n limit.over limit.under h.room
            (low_lower n other.over other.under limit.over limit.under lt positive h.room.positive h.room.risen under low)
            (high_lower n other.over other.under limit.over limit.under lt positive h.room.positive h.room.risen under high);
        way = way_kept f c t n limit limit.way h.way;
      }

      second : IsUnder other limit → IsLimit f c t (suc n) other
      second under = record {
        room = with_last n other.over other.under (lower n limit.over limit.under other.over other.under (omega (arith, lt)) h.room positive risen under) low high;
        way = way;
      }

  same_limit : (n : ℕ) (limit : Limit) → IsLimit f c t n limit → IsLow n limit.over limit.under → IsHigh n limit.over limit.under → IsLimit f c t (suc n) limit
  same_limit n limit h low high = record { room = with_last n limit.over limit.under h.room low high; way = way_kept f c t n limit limit.way h.way }

  rising_row : (n : ℕ) (limit : Limit) → n < length t.rows → IsLimit f c t n limit → pos 0 <ℤ entry_at t n c
      → IsLimit f c t (suc n) (lesser limit (lower_limit f c n (row_at t n)))
  rising_row n limit lt h above =
      let risen = feasible.low n lt in
      lesser_room n limit (lower_limit f c n (row_at t n)) lt h above risen (omega (arith, ints))
      (high_none n (value_at f t n) (entry_at t n c) lt above risen (omega (arith, ints))) (omega arith, refl, refl)

  falling_row : (n : ℕ) (limit : Limit) → n < length t.rows → IsLimit f c t n limit → entry_at t n c <ℤ pos 0
      → (range : Option ℕ) → range_of f (basic_at t n) ≡ range
      → IsLimit f c t (suc n) (elim range [ Some u ↦ lesser limit (upper_limit f c u n (row_at t n)) | None ↦ limit ])
  falling_row n limit lt h below None e =
      same_limit n limit h (low_none n limit.over limit.under lt h.room.positive h.room.risen (omega (arith, ints))) (rw e tt)
  falling_row n limit lt h below (Some u) e =
      let within : value_at f t n ≤ℤ (entry_at t n (basic_at t n) *ℤ pos u) = rw e at (feasible.high n lt) in
      let risen : pos 0 ≤ℤ (entry_at t n (basic_at t n) *ℤ pos u -ℤ value_at f t n) = omega (arith, ints, within) in
      let above : pos 0 <ℤ neg_ℤ (entry_at t n c) = omega (arith, ints, below) in
      lesser_room n limit (upper_limit f c u n (row_at t n)) lt h above risen
      (low_none n (entry_at t n (basic_at t n) *ℤ pos u -ℤ value_at f t n) (neg_ℤ (entry_at t n c)) lt above risen (omega (arith, ints)))
      (rw e (omega (arith, ints))) (omega arith, refl, u, e, refl, refl)

  next_row : (n : ℕ) (limit : Limit) → n < length t.rows → IsLimit f c t n limit → IsLimit f c t (suc n) (with_row f c n (row_at t n) limit)
  next_row n limit lt h = rises (int_lt (pos 0) (entry_at t n c)) refl
    where
      falling : Limit
      falling = elim (range_of f (basic_at t n)) [ Some u ↦ lesser limit (upper_limit f c u n (row_at t n)) | None ↦ limit ]

      falls : (test : Bool) → int_lt (entry_at t n c) (pos 0) ≡ test → (int_lt (pos 0) (entry_at t n c) ≡ false) → IsLimit f c t (suc n) (cond test falling limit)
      falls true e d = falling_row n limit lt h (omega (arith, ints)) (range_of f (basic_at t n)) refl
      falls false e d =
          same_limit n limit h (low_none n limit.over limit.under lt h.room.positive h.room.risen (omega (arith, ints)))
          (high_none n limit.over limit.under lt h.room.positive h.room.risen (omega (arith, ints)))

      rises : (test : Bool) → int_lt (pos 0) (entry_at t n c) ≡ test
          → IsLimit f c t (suc n) (cond test (lesser limit (lower_limit f c n (row_at t n))) (cond (int_lt (entry_at t n c) (pos 0)) falling limit))
      rises true e = rising_row n limit lt h (omega (arith, ints))
      rises false e = falls (int_lt (entry_at t n c) (pos 0)) refl e

  pub IsLimit-least : (n : ℕ) → n ≤ length t.rows → IsLimit f c t n (least_limit f c t n)
  unfolding least_limit
  IsLimit-least zero le = record {
    room = record {
      positive = omega (arith, ints);
      risen = omega (arith, ints);
      own = omega (arith, ints);
      low = λ r lt. absurd (omega (arith, lt));
      high = λ r lt. absurd (omega (arith, lt));
    };
    way = (refl, refl);
  }
  IsLimit-least (suc n) le = next_row n (least_limit f c t n) (omega (arith, le)) (IsLimit-least n (omega (arith, le)))

  -- ---- all rows
  pub HasRoom-limit : (limit : Limit) → is_helper f c ≡ false → IsLimit f c t (length t.rows) limit → HasRoom f c t limit.over limit.under
  HasRoom-limit limit plain_column h = record {
    positive = h.room.positive;
    risen = h.room.risen;
    own = rw plain_column h.room.own;
    low = h.room.low;
    high = h.room.high;
  }

pub HasRoom-deciding : (f : Columns) (c : ℕ) (t : Tableau) → IsFeasible f t → is_helper f c ≡ false → HasRoom f c t (deciding f c t).over (deciding f c t).under
HasRoom-deciding f c t feasible plain_column =
    HasRoom-limit f c t feasible (deciding f c t) plain_column (IsLimit-least f c t feasible (length t.rows) (omega arith))
