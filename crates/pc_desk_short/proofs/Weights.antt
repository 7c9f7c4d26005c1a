-- Weights that are small, and what they come to over a class.
use Rattle.std.proofs.Common.{◌≡◌, ℕ, zero, suc, ◌*◌, ◌≤◌, ◌==◌, ℤ, pos, ◌+ℤ◌, Bool, true, false, cond, List, [], ◌∷◌, length, unsigned_abs, arith, eqb-true}
use Rattle.std.specs.List.{list_all}
use Rattle.std.proofs.lemmas.Bool.{and_parts}
use Rattle.std.proofs.lemmas.Int.{ints}
use Rattle.pc_model.specs.declared.constraint.Constraint.{Constraint}
use Rattle.pc_model.specs.Places.{has_bit}
use Rattle.pc_num.specs.Signs.{Fits}
use Rattle.pc_program_bound.specs.Parts.{taken}
use Rattle.pc_program_bound.specs.Sums.{int_at, sum_below}
use Rattle.pc_program_bound.proofs.SumBelow.{sum_below-suc, sum_below-zero}
use Rattle.pc_desk_short.specs.Shortage.{are_sized, is_small, weight_limit}

pub sized_parts : (constraints : List Constraint) (weights : List ℤ) → are_sized constraints weights ≡ true
    → (length weights ≡ length constraints) × (list_all is_small weights ≡ true)
sized_parts constraints weights sized =
    let parts = and_parts (length weights == length constraints) (list_all is_small weights) sized in
    (eqb-true (length weights) (length constraints) parts.0, parts.1)

-- .. also past the last weight, where there is none
pub small_weights : (weights : List ℤ) → list_all is_small weights ≡ true → (place : ℕ) → unsigned_abs (int_at weights place) ≤ weight_limit
small_weights [] small place = omega arith
small_weights (weight ∷ weights) small zero = let first = (and_parts (is_small weight) (list_all is_small weights) small).0 in grind (arith, first)
small_weights (weight ∷ weights) small (suc place) = small_weights weights (and_parts (is_small weight) (list_all is_small weights) small).1 place

-- a weight that a class has, or nothing
small_taken : (test : Bool) (weight : ℤ) → unsigned_abs weight ≤ weight_limit → unsigned_abs (cond test weight (pos 0)) ≤ weight_limit
small_taken true weight small = small
small_taken false weight small = omega arith

further : (n : ℕ) (sum more : ℤ) → unsigned_abs sum ≤ n * weight_limit → unsigned_abs more ≤ weight_limit → unsigned_abs (sum +ℤ more) ≤ suc n * weight_limit
further n sum more h k = omega (arith, ints, h, k)

-- so many weights are at most so far from 0
pub sum_near : (mask : ℕ) (weights : List ℤ) → list_all is_small weights ≡ true → (n : ℕ) → unsigned_abs (sum_below n (taken mask weights)) ≤ n * weight_limit
sum_near mask weights small zero = rw (sum_below-zero (taken mask weights)) (omega arith)
sum_near mask weights small (suc n) =
    rw (sum_below-suc n (taken mask weights))
    (further n (sum_below n (taken mask weights)) (taken mask weights n) (sum_near mask weights small n) (small_taken (has_bit mask n) (int_at weights n) (small_weights weights small n)))

pub sum_fits : (mask : ℕ) (weights : List ℤ) → list_all is_small weights ≡ true → (n : ℕ) → n ≤ 20 → Fits (sum_below n (taken mask weights))
sum_fits mask weights small n few = fits (sum_below n (taken mask weights)) (sum_near mask weights small n)
  where
    fits : (sum : ℤ) → unsigned_abs sum ≤ n * weight_limit → Fits sum
    fits sum near = omega (arith, near, few)
