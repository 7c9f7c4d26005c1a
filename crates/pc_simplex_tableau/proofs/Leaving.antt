-- A basic column that is turned before it leaves.
use Rattle.std.proofs.Common.{◌≡◌, ℕ, ◌<◌, length, refl, ap, sym, subst, ◌∙◌, arith, Some, MatchOption}
use Rattle.std.specs.Prelude.{⊤, ℤ, pos, neg_ℤ, ◌-ℤ◌, ◌*ℤ◌, ◌<ℤ◌, ◌≤ℤ◌}
use Rattle.std.proofs.lemmas.Int.{ints}
use Rattle.pc_simplex_tableau.specs.Tableau.{Tableau, Columns, range_of, end_of, turned}
use Rattle.pc_simplex_tableau.specs.Conditions.{IsSized}
use Rattle.pc_simplex_tableau.specs.Standing.{entry_at, basic_at, value_at, IsSolved, HasRoom}
use Rattle.pc_simplex_tableau.proofs.Sized.{sized_basic}
use Rattle.pc_simplex_tableau.proofs.Products.{mul-sub, neg-mul, mul_not_negative}
use Rattle.pc_simplex_tableau.proofs.Pivots.{by_same}
use Rattle.pc_simplex_tableau.proofs.Turned.{below, basic_at-turned, own_entry, end_is}
use Rattle.pc_simplex_tableau.proofs.Feasible.{value_at-turned, entry_at-other, value_at-own, entry_at-own}

-- no other row has its basic column
apart : (t : Tableau) → IsSolved t → (i r : ℕ) → i < length t.rows → r < length t.rows → (i ≡ r → ⊥) → basic_at t i ≡ basic_at t r → ⊥
apart t solved i r h lt ne same =
    let above : pos 0 <ℤ entry_at t i (basic_at t i) = solved.positive i h in
    let none : entry_at t i (basic_at t i) ≡ pos 0 = ap (entry_at t i) same ∙ solved.alone i r h lt ne in
    omega (arith, ints, above, none)

module _ (f : Columns) (c r u : ℕ) (t : Tableau) (lt : r < length t.rows) (sized : IsSized f t) (solved : IsSolved t)
    (range : range_of f (basic_at t r) ≡ Some u) (own : c < f.count) (free : (i : ℕ) → i < length t.rows → basic_at t i ≡ c → ⊥) where
  abbrev after : Tableau
  after = turned f (basic_at t r) u t

  abbrev over : ℤ
  over = entry_at t r (basic_at t r) *ℤ pos u -ℤ value_at f t r

  abbrev under : ℤ
  under = neg_ℤ (entry_at t r c)

  end : end_of f (basic_at t r) ≡ u
  end = end_is f (basic_at t r) u range

  basic_is_column : basic_at t r < f.count
  basic_is_column = sized_basic sized r lt

  value_own : value_at f after r ≡ over
  value_own = let turned_value = value_at-own f (basic_at t r) u t basic_is_column end sized r lt refl in omega (arith, ints, turned_value)

  pub entry_own : entry_at after r c ≡ under
  entry_own = entry_at-own f (basic_at t r) u t basic_is_column end sized r c lt refl own (λ e. free r lt (sym e))

  value_other : (i : ℕ) → i < length t.rows → (i ≡ r → ⊥) → value_at f after i ≡ value_at f t i
  value_other i h ne =
      let less = value_at-turned f (basic_at t r) u t basic_is_column end sized i h (apart t solved i r h lt ne) in
      let none = solved.alone i r h lt ne in
      let lost : entry_at t i (basic_at t r) *ℤ pos u ≡ pos 0 = rw none (omega (arith, ints)) in
      omega (arith, ints, less, lost)

  entry_other : (i : ℕ) → i < length t.rows → (i ≡ r → ⊥) → entry_at after i c ≡ entry_at t i c
  entry_other i h ne =
      entry_at-other f (basic_at t r) u t basic_is_column end sized i c h (apart t solved i r h lt ne) own (λ e. free r lt (sym e))

  module _ (room : HasRoom f c t over under) where
    IsHigh : ℕ → Type 0
    IsHigh i = MatchOption (range_of f (basic_at after i)) ⊤ (λ w. (neg_ℤ (entry_at after i c) *ℤ over) ≤ℤ (under *ℤ (entry_at after i (basic_at after i) *ℤ pos w -ℤ value_at f after i)))

    high_other : (i : ℕ) → i < length t.rows → (i ≡ r → ⊥) → IsHigh i
    unfolding IsHigh
    high_other i h ne =
        rw (basic_at-turned f (basic_at t r) u t basic_is_column end sized i h, own_entry f (basic_at t r) u t basic_is_column end sized i h, value_other i h ne, entry_other i h ne)
        (room.high i h)

    high_row : IsHigh r
    unfolding IsHigh
    high_row =
        rw (basic_at-turned f (basic_at t r) u t basic_is_column end sized r lt, own_entry f (basic_at t r) u t basic_is_column end sized r lt, value_own, entry_own, range)
        (enough under (entry_at t r (basic_at t r) *ℤ pos u) over room.positive
        (mul_not_negative (entry_at t r (basic_at t r)) (pos u) (let above = solved.positive r lt in omega (arith, ints, above)) (omega (arith, ints))))
      where
        enough : (q w v : ℤ) → pos 0 <ℤ q → pos 0 ≤ℤ w → (neg_ℤ q *ℤ v) ≤ℤ (q *ℤ (w -ℤ v))
        enough q w v positive some =
            let more = mul_not_negative q w (omega (arith, ints, positive)) some in
            let split = mul-sub q w v in
            let signs = neg-mul q v in
            omega (arith, ints, more, split, signs)

    HasRoom-over : HasRoom f c after over under
    unfolding IsHigh
    HasRoom-over = record {
      positive = room.positive;
      risen = room.risen;
      own = room.own;
      low = λ i h. by_same i r
          (λ e. subst (λ k. (entry_at after k c *ℤ over) ≤ℤ (under *ℤ value_at f after k)) (sym e) (rw (value_own, entry_own) (omega (arith, ints))))
          (λ ne. rw (value_other i (less i h) ne, entry_other i (less i h) ne) (room.low i (less i h)));
      high = λ i h. by_same i r (λ e. subst IsHigh (sym e) high_row) (λ ne. high_other i (less i h) ne);
    }
      where
        less : (i : ℕ) → i < length after.rows → i < length t.rows
        less i h = below f (basic_at t r) u t basic_is_column end sized i h

    pub HasRoom-turned : HasRoom f c after (value_at f after r) (entry_at after r c)
    HasRoom-turned = rw (value_own, entry_own) HasRoom-over
