-- Where the columns stand at the end of the steps: over one denominator they solve the rows, each within its range.
use Rattle.std.proofs.Common.{◌≡◌, ℕ, zero, suc, ◌<◌, ◌≤◌, ◌==◌, Bool, true, false, cond, length, refl, ap, sym, subst, ◌∙◌, arith, Option, Some, None, MatchOption, true≢false}
use Rattle.std.specs.Prelude.{⊤, ℤ, pos, neg_ℤ, nat_abs, ◌+ℤ◌, ◌-ℤ◌, ◌*ℤ◌, ◌<ℤ◌, ◌≤ℤ◌}
use Rattle.std.proofs.lemmas.Int.{ints}
use Rattle.std.proofs.lemmas.Bool.{eqb-true, ne_eqb, eq-eqb}
use Rattle.std.proofs.lemmas.List.{get_or_past}
use Rattle.std.proofs.Math.IntN.{*ℤ_comm}
use Rattle.pc_program_bound.specs.Sums.{sum_below}
use Rattle.pc_program_bound.proofs.Ring.{mul_assoc, mul_mono}
use Rattle.pc_program_bound.proofs.SumBelow.{sum_below-more, sum_below-one}
use Rattle.pc_simplex_tableau.specs.Numbers.{first_below}
use Rattle.pc_simplex_tableau.specs.Tableau.{Tableau, Columns, row_at, is_turned, range_of, end_of}
use Rattle.pc_simplex_tableau.specs.Point.{row_of}
use Rattle.pc_simplex_tableau.specs.Conditions.{IsSized}
use Rattle.pc_simplex_tableau.specs.Standing.{entry_at, basic_at, value_at, IsSolved, IsFeasible, place, SolvesRows}
use Rattle.pc_simplex_tableau.proofs.Sized.{sized_basic}
use Rattle.pc_simplex_tableau.proofs.Products.{mul-zero, zero-mul, mul-neg, mul_swap, mul_positive, mul_not_negative, le_cancel}
use Rattle.pc_simplex_tableau.proofs.Pivots.{by_same}
use Rattle.pc_simplex_tableau.proofs.Meaning.{miss-same}
use Rattle.pc_simplex_tableau.proofs.Entering.{first_below-some}

-- a basic column stands at its row's value over its entry, and every other one at 0; minus the denominator at the place of the value
pub record IsPoint (f : Columns) (t : Tableau) (d : ℕ) (z : ℕ → ℤ) : Type 0 where
  pub positive : 1 ≤ d
  pub whole : z f.count ≡ neg_ℤ (pos d)
  pub basics : (r : ℕ) → r < length t.rows → entry_at t r (basic_at t r) *ℤ z (basic_at t r) ≡ pos d *ℤ value_at f t r
  pub others : (k : ℕ) → k < f.count → ((r : ℕ) → r < length t.rows → basic_at t r ≡ k → ⊥) → z k ≡ pos 0

pub record HasPoint (f : Columns) (t : Tableau) : Type 0 where
  pub den : ℕ
  pub numbers : ℕ → ℤ
  pub point : IsPoint f t den numbers

-- ---- the row in which a column is basic

pub first_below-none : (n : ℕ) (test : ℕ → Bool) (k : ℕ) → first_below n test ≡ None → k < n → test k ≡ false
unfolding first_below
first_below-none zero test k e lt = absurd (omega (arith, lt))
first_below-none (suc n) test k e lt = by (first_below n test) refl (first_below-none n test k) e
  where
    last : (b : Bool) → test n ≡ b → cond b (Some n) None ≡ None → test n ≡ false
    last true d h = absurd cc
    last false d h = d

    by : (found : Option ℕ) → first_below n test ≡ found → (first_below n test ≡ None → k < n → test k ≡ false)
        → ◌≡◌ {A = Option ℕ} (elim found [ Some j ↦ Some j | None ↦ cond (test n) (Some n) None ]) None → test k ≡ false
    by None d again h = by_same k n (λ e. subst (λ m. test m ≡ false) (sym e) (last (test n) refl h)) (λ ne. again d (omega (arith, lt, ne)))
    by (Some j) d again h = absurd cc

module _ (t : Tableau) where
  pub row_of-some : (k r : ℕ) → row_of t k ≡ Some r → (r < length t.rows) × (basic_at t r ≡ k)
  row_of-some k r e =
      let found = first_below-some (length t.rows) (λ i. basic_at t i == k) r e in
      (found.0, eqb-true (basic_at t r) k found.1)

  pub row_of-none : (k : ℕ) → row_of t k ≡ None → (r : ℕ) → r < length t.rows → basic_at t r ≡ k → ⊥
  row_of-none k e r lt same =
      true≢false (sym (eq-eqb (basic_at t r) k same) ∙ first_below-none (length t.rows) (λ i. basic_at t i == k) r e lt)

  pub by_row : {P : Type 0} (k : ℕ) → ((r : ℕ) → r < length t.rows → basic_at t r ≡ k → P)
      → (((r : ℕ) → r < length t.rows → basic_at t r ≡ k → ⊥) → P) → P
  by_row {P = P} k basic other = by (row_of t k) refl
    where
      by : (found : Option ℕ) → row_of t k ≡ found → P
      by (Some r) e = let there = row_of-some k r e in basic r there.0 there.1
      by None e = other (row_of-none k e)

  -- no column is basic in two rows
  pub same_row : IsSolved t → (i r : ℕ) → i < length t.rows → r < length t.rows → basic_at t i ≡ basic_at t r → i ≡ r
  same_row solved i r h lt same = by_same i r (λ e. e) (λ ne. absurd (clash (solved.alone i r h lt ne)))
    where
      clash : entry_at t i (basic_at t r) ≡ pos 0 → ⊥
      clash none =
          let some = solved.positive i h in
          let own : entry_at t i (basic_at t i) ≡ pos 0 = ap (entry_at t i) same ∙ none in
          omega (arith, ints, some, own)

  pub row_of-basic : IsSolved t → (r : ℕ) → r < length t.rows → row_of t (basic_at t r) ≡ Some r
  row_of-basic solved r lt = by (row_of t (basic_at t r)) refl
    where
      by : (found : Option ℕ) → row_of t (basic_at t r) ≡ found → row_of t (basic_at t r) ≡ Some r
      by (Some i) e = let there = row_of-some (basic_at t r) i e in e ∙ ap Some (same_row solved i r there.0 lt there.1)
      by None e = absurd (row_of-none (basic_at t r) e r lt refl)

-- ---- a common denominator

record HasScale (f : Columns) (t : Tableau) (n : ℕ) : Type 0 where
  den : ℤ
  by_row : ℕ → ℤ
  positive : pos 0 <ℤ den
  each : (r : ℕ) → r < n → entry_at t r (basic_at t r) *ℤ by_row r ≡ den *ℤ value_at f t r

module _ (f : Columns) (t : Tableau) (n : ℕ) (d : ℤ) (s : ℕ → ℤ) where
  abbrev last_entry : ℤ
  last_entry = entry_at t n (basic_at t n)

  abbrev scaled : ℕ → ℤ
  scaled r = cond (r == n) (d *ℤ value_at f t n) (last_entry *ℤ s r)

  abbrev IsScaled : ℕ → Type 0
  IsScaled r = entry_at t r (basic_at t r) *ℤ scaled r ≡ (last_entry *ℤ d) *ℤ value_at f t r

  scaled_own : IsScaled n
  scaled_own = rw (eq-eqb n n refl) (sym (mul_assoc last_entry d (value_at f t n)))

  scaled_other : (r : ℕ) → (r ≡ n → ⊥) → entry_at t r (basic_at t r) *ℤ s r ≡ d *ℤ value_at f t r → IsScaled r
  scaled_other r ne before = rw (ne_eqb r n ne)
      (mul_swap (entry_at t r (basic_at t r)) last_entry (s r) ∙ ap (λ m. last_entry *ℤ m) before
      ∙ sym (mul_assoc last_entry d (value_at f t r)))

HasScale-rows : (f : Columns) (t : Tableau) → IsSolved t → (n : ℕ) → n ≤ length t.rows → HasScale f t n
HasScale-rows f t solved zero le = record { den = pos 1; by_row = λ r. pos 0; positive = omega (arith, ints); each = λ r lt. absurd (omega (arith, lt)) }
HasScale-rows f t solved (suc n) le =
    let before = HasScale-rows f t solved n (omega (arith, le)) in
    record {
      den = entry_at t n (basic_at t n) *ℤ before.den;
      by_row = scaled f t n before.den before.by_row;
      positive = mul_positive (entry_at t n (basic_at t n)) before.den (solved.positive n (omega (arith, le))) before.positive;
      each = λ r lt. by_same r n
          (λ same. subst (IsScaled f t n before.den before.by_row) (sym same) (scaled_own f t n before.den before.by_row))
          (λ ne. scaled_other f t n before.den before.by_row r ne (before.each r (omega (arith, lt, ne))));
    }

module _ (f : Columns) (t : Tableau) (d : ℤ) (s : ℕ → ℤ) where
  abbrev standing_at : ℕ → ℤ
  standing_at k = cond (k == f.count) (neg_ℤ d) (elim (row_of t k) [ Some r ↦ s r | None ↦ pos 0 ])

  standing_value : standing_at f.count ≡ neg_ℤ d
  standing_value = rw (eq-eqb f.count f.count refl) refl

  standing_column : (k : ℕ) → k < f.count → standing_at k ≡ elim (row_of t k) [ Some r ↦ s r | None ↦ pos 0 ]
  standing_column k lt = rw (ne_eqb k f.count (λ e. omega (arith, lt, e))) refl

  standing_basic : IsSized f t → IsSolved t → (r : ℕ) → r < length t.rows → standing_at (basic_at t r) ≡ s r
  standing_basic sized solved r lt =
      standing_column (basic_at t r) (sized_basic sized r lt)
      ∙ ap (λ (row : Option ℕ). elim row [ Some i ↦ s i | None ↦ pos 0 ]) (row_of-basic t solved r lt)

  standing_other : (k : ℕ) → k < f.count → ((r : ℕ) → r < length t.rows → basic_at t r ≡ k → ⊥) → standing_at k ≡ pos 0
  standing_other k lt free = standing_column k lt ∙ by (row_of t k) refl
    where
      by : (found : Option ℕ) → row_of t k ≡ found → ◌≡◌ {A = ℤ} (elim (row_of t k) [ Some i ↦ s i | None ↦ pos 0 ]) (pos 0)
      by (Some r) e = let there = row_of-some t k r e in absurd (free r there.0 there.1)
      by None e = ap (λ (row : Option ℕ). elim row [ Some i ↦ s i | None ↦ pos 0 ]) e

pub HasPoint-exists : (f : Columns) (t : Tableau) → IsSized f t → IsSolved t → HasPoint f t
HasPoint-exists f t sized solved =
    let scale = HasScale-rows f t solved (length t.rows) (omega arith) in
    let same : pos (nat_abs scale.den) ≡ scale.den = natural scale.den scale.positive in
    record {
      den = nat_abs scale.den;
      numbers = standing_at f t scale.den scale.by_row;
      point = record {
        positive = some scale.den scale.positive;
        whole = standing_value f t scale.den scale.by_row ∙ ap neg_ℤ (sym same);
        basics = λ r lt. ap (λ m. entry_at t r (basic_at t r) *ℤ m) (standing_basic f t scale.den scale.by_row sized solved r lt)
            ∙ scale.each r lt ∙ ap (λ m. m *ℤ value_at f t r) (sym same);
        others = standing_other f t scale.den scale.by_row;
      };
    }
  where
    natural : (x : ℤ) → pos 0 <ℤ x → pos (nat_abs x) ≡ x
    natural x above = omega (arith, ints, above)

    some : (x : ℤ) → pos 0 <ℤ x → 1 ≤ nat_abs x
    some x above = omega (arith, ints, above)

-- ---- what they do to the rows

-- numbers counted from the other ends twice are as they were
placed_twice : (test : Bool) (z e w : ℤ) → cond test (neg_ℤ (cond test (neg_ℤ z -ℤ e *ℤ w) z) -ℤ e *ℤ w) (cond test (neg_ℤ z -ℤ e *ℤ w) z) ≡ z
placed_twice true z e w = omega (arith, ints)
placed_twice false z e w = refl

-- the basic column's number and the value make a row come to nothing
met_row : (a z v w d cells : ℤ) → cells ≡ a *ℤ z → a *ℤ z ≡ d *ℤ v → w ≡ neg_ℤ d → cells +ℤ v *ℤ w ≡ pos 0
met_row a z v w d cells e same whole =
    let turned = mul-neg v d in
    let swapped = *ℤ_comm v d in
    rw whole (omega (arith, ints, e, same, turned, swapped))

module _ (f : Columns) (t : Tableau) (d : ℕ) (z : ℕ → ℤ) (sized : IsSized f t) (solved : IsSolved t) (point : IsPoint f t d z) where
  pub value_unturned : is_turned t f.count ≡ false
  value_unturned = get_or_past t.turned f.count false (omega (arith, sized.turned))

  pub place_value : place f t z f.count ≡ neg_ℤ (pos d)
  place_value = rw value_unturned point.whole

  place_twice : (k : ℕ) → place f t (place f t z) k ≡ z k
  place_twice k = rw (place_value, sym point.whole) (placed_twice (is_turned t k) (z k) (pos (end_of f k)) (z f.count))

  pub SolvesRows-point : SolvesRows f t (place f t z)
  SolvesRows-point r lt =
      miss-same f.count (row_at t r).numbers (place f t (place f t z)) z place_twice
      ∙ sum_below-more f.count (λ k. entry_at t r k *ℤ z k)
      ∙ met_row (entry_at t r (basic_at t r)) (z (basic_at t r)) (value_at f t r) (z f.count) (pos d)
      (sum_below f.count (λ k. entry_at t r k *ℤ z k)) cells (point.basics r lt) point.whole
    where
      none : (k : ℕ) → k < f.count → (k ≡ basic_at t r → ⊥) → entry_at t r k *ℤ z k ≡ pos 0
      none k h ne = by_row t k
          (λ i less same. ap (λ m. m *ℤ z k) (ap (entry_at t r) (sym same) ∙ solved.alone r i lt less (λ e. ne (sym same ∙ ap (basic_at t) (sym e)))) ∙ zero-mul (z k))
          (λ free. ap (λ m. entry_at t r k *ℤ m) (point.others k h free) ∙ mul-zero (entry_at t r k))

      cells : sum_below f.count (λ k. entry_at t r k *ℤ z k) ≡ entry_at t r (basic_at t r) *ℤ z (basic_at t r)
      cells = sum_below-one f.count (basic_at t r) (λ k. entry_at t r k *ℤ z k) (sized_basic sized r lt) none

-- ---- within the ranges

-- the number of a basic column
low_number : (e z v : ℤ) (d : ℕ) → pos 0 <ℤ e → pos 0 ≤ℤ v → e *ℤ z ≡ pos d *ℤ v → pos 0 ≤ℤ z
low_number e z v d positive low same =
    let some : pos 0 ≤ℤ (pos d *ℤ v) = mul_not_negative (pos d) v (omega (arith, ints)) low in
    let none = mul-zero e in
    le_cancel e (pos 0) z positive (omega (arith, ints, some, none, same))

high_number : (e z v u : ℤ) (d : ℕ) → pos 0 <ℤ e → v ≤ℤ (e *ℤ u) → e *ℤ z ≡ pos d *ℤ v → z ≤ℤ (pos d *ℤ u)
high_number e z v u d positive high same =
    let most : (pos d *ℤ v) ≤ℤ (pos d *ℤ (e *ℤ u)) = mul_mono (pos d) v (e *ℤ u) (omega (arith, ints)) high in
    let swapped = mul_swap (pos d) e u in
    le_cancel e z (pos d *ℤ u) positive (omega (arith, ints, most, swapped, same))

within : (range : Option ℕ) (u : ℕ) (P : ℕ → Type 0) → range ≡ Some u → MatchOption range ⊤ P → P u
within range u P e h = rw e at h

module _ (f : Columns) (t : Tableau) (d : ℕ) (z : ℕ → ℤ) (solved : IsSolved t) (feasible : IsFeasible f t) (point : IsPoint f t d z) where
  pub number-low : (k : ℕ) → k < f.count → pos 0 ≤ℤ z k
  number-low k lt = by_row t k
      (λ r h same. subst (λ n. pos 0 ≤ℤ z n) same
      (low_number (entry_at t r (basic_at t r)) (z (basic_at t r)) (value_at f t r) d (solved.positive r h) (feasible.low r h) (point.basics r h)))
      (λ free. let none = point.others k lt free in omega (arith, ints, none))

  pub number-high : (k u : ℕ) → k < f.count → range_of f k ≡ Some u → z k ≤ℤ (pos d *ℤ pos u)
  number-high k u lt range = by_row t k
      (λ r h same. subst (λ n. z n ≤ℤ (pos d *ℤ pos u)) same
      (high_number (entry_at t r (basic_at t r)) (z (basic_at t r)) (value_at f t r) (pos u) d (solved.positive r h)
      (within (range_of f (basic_at t r)) u (λ w. value_at f t r ≤ℤ (entry_at t r (basic_at t r) *ℤ pos w)) (ap (range_of f) same ∙ range) (feasible.high r h))
      (point.basics r h)))
      (λ free. let none = point.others k lt free in
      let some : pos 0 ≤ℤ (pos d *ℤ pos u) = mul_not_negative (pos d) (pos u) (omega (arith, ints)) (omega (arith, ints)) in
      omega (arith, ints, none, some))
