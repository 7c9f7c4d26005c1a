-- The floors of a box are small, and so are their sums.
use Rattle.std.proofs.Common.{◌≡◌, ℕ, zero, suc, ◌*◌, ◌<◌, ◌≤◌, ◌^◌, Bool, true, false, cond, List, arith}
use Rattle.std.specs.Prelude.{ℤ, pos, ◌-ℤ◌, ◌≤ℤ◌}
use Rattle.std.proofs.lemmas.Int.{ints}
use Rattle.pc_model.specs.Places.{has_bit}
use Rattle.pc_program_bound.specs.declared.program.Program.{Program}
use Rattle.pc_program_bound.specs.Sums.{sum_below, nat_at}
use Rattle.pc_program_bound.specs.Allocation.{IsProgram, IsBox, cells_of, constraints_of, count_for, total}
use Rattle.pc_program_bound.specs.Bound.{IsFit}
use Rattle.pc_program_bound.proofs.SumBelow.{sum_below-zero, sum_below-suc}
use Rattle.pc_simplex_tableau.specs.Relaxation.{columns_of, left_of}
use Rattle.pc_simplex.specs.Floors.{AreFloors}

pub floors_of_box : (p : Program) (floors caps : List ℕ) → IsProgram p → IsBox p floors caps → columns_of p < 2 ^ 32 → AreFloors p floors
floors_of_box p floors caps program box few = record {
  sized = box.sized_floors;
  small = λ i lt. (let own = box.inside i lt in let cap = program.small_cap i lt in omega (arith, own.1, own.2, cap));
  few = few;
}

sum_small : (n : ℕ) (f : ℕ → ℤ) → ((i : ℕ) → i < n → f i ≤ℤ pos 1_000_000_000) → sum_below n f ≤ℤ pos (n * 1_000_000_000)
sum_small zero f each = omega (arith, ints, sum_below-zero f)
sum_small (suc n) f each =
    let before = sum_small n f (λ i lt. each i (omega (arith, lt))) in
    let last = each n (omega arith) in
    omega (arith, ints, before, last, sum_below-suc n f)

one_small : (test : Bool) (n : ℕ) → n ≤ 1_000_000_000 → cond test (pos n) (pos 0) ≤ℤ pos 1_000_000_000
one_small true n le = omega (arith, ints, le)
one_small false n le = omega (arith, ints)

-- no total of floors is negative
sum_positive : (n : ℕ) (f : ℕ → ℤ) → ((i : ℕ) → i < n → pos 0 ≤ℤ f i) → pos 0 ≤ℤ sum_below n f
sum_positive zero f each = omega (arith, ints, sum_below-zero f)
sum_positive (suc n) f each =
    let before = sum_positive n f (λ i lt. each i (omega (arith, lt))) in
    let last = each n (omega arith) in
    omega (arith, ints, before, last, sum_below-suc n f)

one_positive : (test : Bool) (n : ℕ) → pos 0 ≤ℤ cond test (pos n) (pos 0)
one_positive true n = omega (arith, ints)
one_positive false n = omega (arith, ints)

module _ (p : Program) (floors : List ℕ) (j : ℕ) where
  total_below : AreFloors p floors → total p floors j ≤ℤ pos (cells_of p * 1_000_000_000)
  total_below h = sum_small (cells_of p) (count_for p floors j) (λ i lt. one_small (has_bit (nat_at p.masks i) j) (nat_at floors i) (h.small i lt))

  pub total_positive : pos 0 ≤ℤ total p floors j
  total_positive = sum_positive (cells_of p) (count_for p floors j) (λ i lt. one_positive (has_bit (nat_at p.masks i) j) (nat_at floors i))

  pub total_small : (sum : ℕ) → AreFloors p floors → pos sum ≡ total p floors j → sum < 2 ^ 62
  total_small sum h e = let below = total_below h in let few = h.few in omega (arith, ints, below, few, e)

  pub left_fits : AreFloors p floors → IsProgram p → j < constraints_of p → IsFit (left_of p floors j)
  left_fits h program own =
      let below = total_below h in
      let above = total_positive in
      let few = h.few in
      let most = program.small_most j own in
      omega (arith, ints, below, above, few, most)

  pub left_less_fits : AreFloors p floors → IsProgram p → j < constraints_of p → (u : ℕ) → u ≤ 1_000_000_000 → IsFit (left_of p floors j -ℤ pos u)
  left_less_fits h program own u le =
      let below = total_below h in
      let above = total_positive in
      let few = h.few in
      let most = program.small_most j own in
      omega (arith, ints, below, above, few, most, le)
