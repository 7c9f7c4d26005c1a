-- The column that enters, and the limit that decides.
use Rattle.std.proofs.Common.{◌≡◌, ◌≤◌, ◌<◌, ◌+◌, ◌-◌, ◌&&◌, not, pos, ℕ, zero, suc, Bool, true, false, cond, length, drop, Option, Some, None, arith, refl, ap, ap₂, sym, ◌∙◌, add-one}
use Rattle.std.specs.List.{list_all}
use Rattle.std.proofs.lemmas.Bool.{and_parts}
use Rattle.std.proofs.lemmas.List.{at_drop_more, at_drop_all}
use Rattle.std.specs.Prelude.{int_lt}
use Rattle.pc_program_bound.specs.Sums.{int_at}
use Rattle.pc_simplex_tableau.specs.Numbers.{first_below}
use Rattle.pc_simplex_tableau.specs.Tableau.{TableauRow, Tableau, Columns, Limit, no_row, row_at, is_basic, is_after, lesser, range_of, lower_limit, upper_limit, with_row, least_limit, does_limit_fit}
use Rattle.pc_simplex_tableau.specs.Conditions.{IsSized}
use Rattle.pc_simplex_tableau.specs.Limits.{IsSoundFraction, IsSoundLimit, own_limit}

-- ---- the first number that passes
within_last : (n k : ℕ) (passes : Bool) → cond {A = Option ℕ} passes (Some n) None ≡ Some k → k < suc n
within_last n k true e = let same : n ≡ k = cc in omega (arith, same)
within_last n k false e = absurd cc

within_of : (found : Option ℕ) (n k : ℕ) (passes : Bool) (whole : Option ℕ) → ((j : ℕ) → whole ≡ Some j → j < n) → whole ≡ found →
    elim found [ Some k ↦ Some k | None ↦ cond {A = Option ℕ} passes (Some n) None ] ≡ Some k → k < suc n
within_of (Some j) n k passes whole h is e = let same : j ≡ k = cc in omega (arith, h j is, same)
within_of None n k passes whole h is e = within_last n k passes e

module _ (test : ℕ → Bool) where
  pub none_first : first_below 0 test ≡ None
  unfolding first_below
  none_first = refl

  first-suc : (n : ℕ) → first_below (suc n) test ≡ elim (first_below n test) [ Some k ↦ Some k | None ↦ cond (test n) (Some n) None ]
  unfolding first_below
  first-suc n = refl

  pub none_more : (n : ℕ) → first_below n test ≡ None → false ≡ test n → first_below (n + 1) test ≡ None
  none_more n none fails = rw (add-one, first-suc n, none, ← fails) refl

  found_further : (m n k : ℕ) → first_below n test ≡ Some k → first_below (m + n) test ≡ Some k
  found_further zero n k e = let same : 0 + n ≡ n = omega arith in rw same e
  found_further (suc m) n k e = let same : suc m + n ≡ suc (m + n) = omega arith in rw (same, first-suc (m + n), found_further m n k e) refl

  pub first_within : (n k : ℕ) → first_below n test ≡ Some k → k < n
  first_within zero k e = absurd (let f = sym none_first ∙ e in cc)
  first_within (suc n) k e = within_of (first_below n test) n k (test n) (first_below n test) (λ j f. first_within n j f) refl (sym (first-suc n) ∙ e)

  pub first_found : (n k : ℕ) → k < n → first_below k test ≡ None → true ≡ test k → Some k ≡ first_below n test
  first_found n k h none passes =
      let here : first_below (suc k) test ≡ Some k = rw (first-suc k, none, ← passes) refl in
      let upto : (n - suc k) + suc k ≡ n = omega arith in
      sym (rw upto at (found_further (n - suc k) (suc k) k here))

-- whether a column may enter
abbrev pub may_enter : Tableau → ℕ → Bool
may_enter t k = not (is_basic t k) && int_lt (pos 0) (int_at t.aim k)

-- ---- where a limit stands
own_placed : (f : Columns) (c n : ℕ) → c < f.count → IsSoundLimit f n (own_limit f c)
own_placed f c n h = record { column = h; way = tt }

either : (P : Limit → Type 0) (b : Bool) (x y : Limit) → P x → P y → P (cond b x y)
either P true x y p q = p
either P false x y p q = q

at_range : (P : Limit → Type 0) (o : Option ℕ) (x : ℕ → Limit) (y : Limit) → ((u : ℕ) → P (x u)) → P y → P (elim o [ Some u ↦ x u | None ↦ y ])
at_range P (Some u) x y p q = p u
at_range P None x y p q = q

with_row_placed : (f : Columns) (c n r : ℕ) (row : TableauRow) (best : Limit) → row.basic < f.count → r < n → IsSoundLimit f n best → IsSoundLimit f n (with_row f c r row best)
with_row_placed f c n r row best basic within h =
    let P = IsSoundLimit f n in
    let lower = lower_limit f c r row in
    let lower_placed : P lower = record { column = basic; way = within } in
    let upper_placed : (u : ℕ) → P (upper_limit f c u r row) = λ u. record { column = basic; way = within } in
    either P (int_lt (pos 0) (int_at row.numbers c)) (lesser best lower) _
    (either P (is_after best lower) lower best lower_placed h)
    (either P (int_lt (int_at row.numbers c) (pos 0)) _ best
    (at_range P (range_of f row.basic) (λ u. lesser best (upper_limit f c u r row)) best
    (λ u. either P (is_after best (upper_limit f c u r row)) (upper_limit f c u r row) best (upper_placed u) h) h) h)

-- ---- the least limit

-- the least limit among the first n rows, and those from there decide whether all fit
pub record IsLeastTo (f : Columns) (c : ℕ) (t : Tableau) (best : Limit) (n : ℕ) : Type 0 where
  pub decides : list_all (does_limit_fit f c) t.rows ≡ list_all (does_limit_fit f c) (drop n t.rows)
  pub least : best ≡ least_limit f c t n
  pub sound : IsSoundFraction best
  pub placed : IsSoundLimit f (length t.rows) best

module _ (f : Columns) (c : ℕ) (t : Tableau) where
  pub least_start : (best : Limit) → c < f.count → best ≡ own_limit f c → IsSoundFraction best → IsLeastTo f c t best 0
  unfolding least_limit
  least_start best column e sound = record { decides = refl; least = e; sound = sound; placed = rw e (own_placed f c (length t.rows) column) }

  least-suc : (n : ℕ) → least_limit f c t (suc n) ≡ with_row f c n (row_at t n) (least_limit f c t n)
  unfolding least_limit
  least-suc n = refl

  module _ (n : ℕ) (best : Limit) (row : TableauRow) (within : n < length t.rows) (row_is : row ≡ row_at t n) (sized : IsSized f t) (h : IsLeastTo f c t best n) where
    decides_more : list_all (does_limit_fit f c) t.rows ≡ (does_limit_fit f c row && list_all (does_limit_fit f c) (drop (n + 1) t.rows))
    decides_more = h.decides ∙ at_drop_more (list_all (does_limit_fit f c)) t.rows n no_row within ∙ ap (λ x. does_limit_fit f c x && list_all (does_limit_fit f c) (drop (n + 1) t.rows)) (sym row_is)

    pub least_more : (next : Limit) → does_limit_fit f c row ≡ true → next ≡ with_row f c n row best → IsSoundFraction next → IsLeastTo f c t next (n + 1)
    least_more next fits e sound = record {
      decides = decides_more ∙ ap (λ b. b && list_all (does_limit_fit f c) (drop (n + 1) t.rows)) fits;
      least = e ∙ ap₂ (with_row f c n) row_is h.least ∙ sym (least-suc n) ∙ ap (least_limit f c t) (sym (add-one n));
      sound = sound;
      placed = rw e (with_row_placed f c (length t.rows) n row best (rw row_is (sized.rows n no_row within).basic) within h.placed);
    }

    pub least_stops : (does_limit_fit f c row ≡ true → ⊥) → list_all (does_limit_fit f c) t.rows ≡ true → ⊥
    least_stops unfit all = unfit (and_parts (does_limit_fit f c row) (list_all (does_limit_fit f c) (drop (n + 1) t.rows)) (sym decides_more ∙ all)).0

  pub least_end : (best : Limit) (n : ℕ) → length t.rows ≤ n → n ≤ length t.rows → IsLeastTo f c t best n →
      (list_all (does_limit_fit f c) t.rows ≡ true) × (best ≡ least_limit f c t (length t.rows))
  least_end best n past upto h =
      let e : n ≡ length t.rows = omega arith in
      (h.decides ∙ at_drop_all (list_all (does_limit_fit f c)) t.rows n past, h.least ∙ ap (least_limit f c t) e)
