-- What is chosen at prices, by constraints that are tight, is worth as much as the multipliers bound.
use Rattle.std.proofs.Common.{◌≡◌, ◌≢◌, ℕ, zero, suc, ◌+◌, ◌*◌, ◌<◌, ◌≤◌, ◌^◌, Bool, true, false, cond, List, [], refl, ap, sym, ◌∙◌, arith, mul-le-mul}
use Rattle.std.specs.Prelude.{ℤ, pos, negsuc, ◌+ℤ◌, ◌-ℤ◌, ◌*ℤ◌, ◌<ℤ◌, ◌≤ℤ◌, int_lt, nat_abs}
use Rattle.std.specs.Int.{int_max, int_div_euclid}
use Rattle.std.proofs.lemmas.Int.{ints, clamps, by_lt_z, unsigned_abs-mul}
use Rattle.pc_model.specs.declared.tree.Mult.{Mult}
use Rattle.pc_model.specs.Places.{has_bit}
use Rattle.pc_program_bound.specs.declared.program.Program.{Program}
use Rattle.pc_program_bound.specs.Sums.{sum_below, nat_at, int_at}
use Rattle.pc_program_bound.specs.Allocation.{cells_of, constraints_of, total, worth, IsProgram}
use Rattle.pc_program_bound.specs.Bound.{part_of, rest_of, constraint_share, cell_share, raw_bound, bound_of, constraint_size, cell_size, given_up_to, constraint_sizes, cell_sizes, HasFitWidth}
use Rattle.pc_program_bound.proofs.Ring.{mul_mono, mul_anti}
use Rattle.pc_program_bound.proofs.SumBelow.{sum_below-zero, sum_below-suc, sum_below-same}
use Rattle.pc_program_bound.proofs.Duality.{worth-shared}
use Rattle.pc_program_bound.proofs.SmallWidths.{width_within}
use Rattle.pc_nested.specs.Filled.{IsChosen}
use Rattle.pc_nested.specs.Narrowed.{IsTight}
use Rattle.pc_nested.specs.Priced.{mult_of, AreUndone}
use Rattle.pc_nested.proofs.Totals.{sum_below-but_one}
use Rattle.pc_nested.proofs.Prices.{difference_size}

-- ---- one cell and one constraint

-- a cell's share is reached
chosen_most : (gain price : ℤ) (low high count : ℕ) → low ≤ high → IsChosen gain low high price count
    → int_max ((gain -ℤ price) *ℤ pos low) ((gain -ℤ price) *ℤ pos high) ≡ (gain -ℤ price) *ℤ pos count
chosen_most gain price low high count ordered chosen = by_lt_z gain price falls (λ most. by_lt_z price gain rises (λ least. stays (omega (arith, ints, most, least))))
  where
    order : pos low ≤ℤ pos high
    order = omega (arith, ints, ordered)

    falls : gain <ℤ price → int_max ((gain -ℤ price) *ℤ pos low) ((gain -ℤ price) *ℤ pos high) ≡ (gain -ℤ price) *ℤ pos count
    falls less =
        let is = chosen.empty less in
        let lower = mul_anti (gain -ℤ price) (pos low) (pos high) (omega (arith, ints, less)) order in
        let same : (gain -ℤ price) *ℤ pos count ≡ (gain -ℤ price) *ℤ pos low = ap (λ n. (gain -ℤ price) *ℤ pos n) is in
        omega (arith, ints, clamps, lower, same)

    rises : price <ℤ gain → int_max ((gain -ℤ price) *ℤ pos low) ((gain -ℤ price) *ℤ pos high) ≡ (gain -ℤ price) *ℤ pos count
    rises less =
        let is = chosen.full less in
        let higher = mul_mono (gain -ℤ price) (pos low) (pos high) (omega (arith, ints, less)) order in
        let same : (gain -ℤ price) *ℤ pos count ≡ (gain -ℤ price) *ℤ pos high = ap (λ n. (gain -ℤ price) *ℤ pos n) is in
        omega (arith, ints, clamps, higher, same)

    none : (r : ℤ) (n : ℕ) → r ≡ pos 0 → r *ℤ pos n ≡ pos 0
    none r n e = ap (λ x. x *ℤ pos n) e ∙ nothing n
      where
        nothing : (n : ℕ) → pos 0 *ℤ pos n ≡ pos 0
        nothing n = omega (arith, ints)

    stays : gain ≡ price → int_max ((gain -ℤ price) *ℤ pos low) ((gain -ℤ price) *ℤ pos high) ≡ (gain -ℤ price) *ℤ pos count
    stays e =
        let zero_left : gain -ℤ price ≡ pos 0 = omega (arith, ints, e) in
        let a = none (gain -ℤ price) low zero_left in
        let b = none (gain -ℤ price) high zero_left in
        let c = none (gain -ℤ price) count zero_left in
        omega (arith, ints, clamps, a, b, c)

-- and a constraint's
tight_share : (p : Program) (j : ℕ) (counts : List ℕ) (by : ℤ) → IsTight p j counts by
    → by *ℤ pos (cond (int_lt (pos 0) by) (nat_at p.most j) (nat_at p.least j)) ≡ by *ℤ total p counts j
tight_share p j counts by tight = by_test (int_lt (pos 0) by) refl
  where
    by_test : (test : Bool) → int_lt (pos 0) by ≡ test → by *ℤ pos (cond test (nat_at p.most j) (nat_at p.least j)) ≡ by *ℤ total p counts j
    by_test true e = ap (λ t. by *ℤ t) (sym (tight.up (omega (arith, ints, e))))
    by_test false e = by_lt_z by (pos 0) (λ less. ap (λ t. by *ℤ t) (sym (tight.down less))) (λ least. stays (omega (arith, ints, e, least)))
      where
        nothing : (t : ℤ) → pos 0 *ℤ t ≡ pos 0
        nothing t = omega (arith, ints)

        stays : by ≡ pos 0 → by *ℤ pos (nat_at p.least j) ≡ by *ℤ total p counts j
        stays zero_by = ap (λ b. b *ℤ pos (nat_at p.least j)) zero_by ∙ nothing (pos (nat_at p.least j))
            ∙ sym (ap (λ b. b *ℤ total p counts j) zero_by ∙ nothing (total p counts j))

div-one : (z : ℤ) → int_div_euclid z (pos 1) ≡ z
div-one (pos n) = omega (arith, ints)
div-one (negsuc n) = omega (arith, ints)

-- ---- the program

module _ (p : Program) (counts : List ℕ) (k : ℕ) (m : ℤ) (by prices : List ℤ) (undone : AreUndone p counts k m [] by prices) where
  abbrev mult : Mult
  mult = mult_of by

  -- what is left of a gain is the gain less the price
  rest_is : (i : ℕ) → i < cells_of p → rest_of p mult i ≡ int_at p.gain i -ℤ int_at prices i
  rest_is i h =
      let whole : pos 1 *ℤ int_at p.gain i ≡ int_at p.gain i = omega (arith, ints) in
      ap (λ x. x -ℤ sum_below (constraints_of p) (part_of p mult i)) whole ∙ ap (λ x. int_at p.gain i -ℤ x) (sym (undone.priced i h))

  cell_reached : IsProgram p → (i : ℕ) → i < cells_of p → cell_share p p.floor p.cap mult i ≡ rest_of p mult i *ℤ pos (nat_at counts i)
  cell_reached program i h =
      let most = chosen_most (int_at p.gain i) (int_at prices i) (nat_at p.floor i) (nat_at p.cap i) (nat_at counts i) (program.boxed i h) (undone.shows.each i h) in
      rw (rest_is i h) most

  cells_reached : IsProgram p
      → sum_below (cells_of p) (cell_share p p.floor p.cap mult) ≡ sum_below (cells_of p) (λ i. rest_of p mult i *ℤ pos (nat_at counts i))
  cells_reached program =
      sum_below-same (cells_of p) (cell_share p p.floor p.cap mult) (λ i. rest_of p mult i *ℤ pos (nat_at counts i)) (cell_reached program)

  reached : (j : ℕ) → j < constraints_of p → j ≢ k → constraint_share p mult j ≡ int_at by j *ℤ total p counts j
  reached j h other = tight_share p j counts (int_at by j) (undone.tight j h other)

  -- where no constraint is apart
  raw_best : IsProgram p → constraints_of p ≤ k → raw_bound p p.floor p.cap mult ≡ worth p counts
  raw_best program past =
      let cells = cells_reached program in
      let constraints = sum_below-same (constraints_of p) (constraint_share p mult) (λ j. int_at by j *ℤ total p counts j)
      (λ j h. reached j h (λ e. omega (arith, e, h, past))) in
      let whole = worth-shared p counts mult in
      let one : pos 1 *ℤ worth p counts ≡ worth p counts = omega (arith, ints) in
      omega (arith, ints, cells, constraints, whole, one)

  pub bound_best : IsProgram p → constraints_of p ≤ k → worth p counts ≡ bound_of p p.floor p.cap mult
  bound_best program past = sym (ap (λ x. int_div_euclid x (pos 1)) (raw_best program past) ∙ div-one (worth p counts))

  -- where one is
  pub raw_apart : IsProgram p → k < constraints_of p
      → raw_bound p p.floor p.cap mult ≡ worth p counts +ℤ (constraint_share p mult k -ℤ int_at by k *ℤ total p counts k)
  raw_apart program there =
      let cells = cells_reached program in
      let constraints = sum_below-but_one (constraints_of p) k (λ j. int_at by j *ℤ total p counts j) (constraint_share p mult) there reached in
      let whole = worth-shared p counts mult in
      let one : pos 1 *ℤ worth p counts ≡ worth p counts = omega (arith, ints) in
      omega (arith, ints, cells, constraints, whole, one)

  -- ---- the width

  module _ (program : IsProgram p) (few : cells_of p ≤ 40) (gains : (i : ℕ) → i < cells_of p → nat_abs (int_at p.gain i) ≤ 2 ^ 87) where
    scaled : (i : ℕ) → i < cells_of p → nat_abs (mult.den *ℤ int_at p.gain i) ≤ 2 ^ 87
    scaled i h = let same : pos 1 *ℤ int_at p.gain i ≡ int_at p.gain i = omega (arith, ints) in rw same (gains i h)

    rest : (i : ℕ) → i < cells_of p → nat_abs (rest_of p mult i) ≤ 2 ^ 88
    rest i h = rw (rest_is i h) (difference_size (int_at p.gain i) (int_at prices i) (gains i h) (undone.small_prices i h))

    pub width_fits : HasFitWidth p mult
    width_fits = width_within p mult program (2 ^ 88) undone.small_by (2 ^ 87) (2 ^ 88) 40 few scaled rest (omega arith) (omega arith)
