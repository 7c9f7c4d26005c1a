-- The numbers of few cells and constraints with small multipliers and gains fit.
use Rattle.std.proofs.Common.{◌≡◌, ℕ, zero, suc, ◌+◌, ◌*◌, ◌<◌, ◌≤◌, ◌^◌, Bool, true, false, cond, sym, arith, mul-le-mul, FitsSigned, to_z, of_z}
use Rattle.std.specs.Prelude.{ℤ, pos, ◌+ℤ◌, ◌*ℤ◌, nat_abs}
use Rattle.std.proofs.lemmas.Int.{ints, unsigned_abs-mul, fits_signed_from_abs, to_z-of_z}
use mir.Syntax.{w128}
use Rattle.pc_model.specs.declared.tree.Mult.{Mult}
use Rattle.pc_model.specs.Places.{has_bit}
use Rattle.pc_program_bound.specs.declared.program.Program.{Program}
use Rattle.pc_program_bound.specs.Sums.{sum_below, nat_at, int_at}
use Rattle.pc_program_bound.specs.Allocation.{cells_of, constraints_of, IsProgram}
use Rattle.pc_program_bound.specs.Bound.{part_of, rest_of, constraint_size, cell_size, given_up_to, constraint_sizes, cell_sizes, HasFitWidth}
use Rattle.pc_program_bound.proofs.SumBelow.{sum_below-zero, sum_below-suc, sum_below-more}
use Rattle.pc_program_bound.proofs.SmallWidths.{abs-add, rest_within, width_within}

le_products : (a b c d : ℕ) → a ≤ b → c ≤ d → a * c ≤ b * d
le_products a b c d first second = mul-le-mul first second

-- a product of a number below 2^87 with at most a thousand million
pub product_size : (a : ℤ) (c : ℕ) → nat_abs a < 2 ^ 87 → c ≤ 1_000_000_000 → nat_abs (a *ℤ pos c) ≤ 2 ^ 117
product_size a c small few =
    let product : nat_abs a * c ≤ 2 ^ 87 * 1_000_000_000 = le_products (nat_abs a) (2 ^ 87) c 1_000_000_000 (omega (arith, small)) few in
    rw (unsigned_abs-mul a (pos c)) (omega (arith, product))

pub product_fits : (a : ℤ) (c : ℕ) → nat_abs a < 2 ^ 87 → c ≤ 1_000_000_000 → FitsSigned w128 (a *ℤ pos c)
product_fits a c small few = let size = product_size a c small few in fits_signed_from_abs w128 (a *ℤ pos c) (omega (arith, size))

pub product_same : (a : ℤ) (c : ℕ) → nat_abs a < 2 ^ 87 → c ≤ 1_000_000_000 → to_z w128 (of_z w128 (a *ℤ pos c)) ≡ a *ℤ pos c
product_same a c small few = to_z-of_z w128 (a *ℤ pos c) (product_fits a c small few)

-- small multipliers of few constraints and cells make a width that fits
pub fits-small : (p : Program) (mult : Mult) → IsProgram p → cells_of p ≤ 40 → mult.den ≡ pos 1
    → ((j : ℕ) → j < constraints_of p → nat_abs (int_at mult.by j) ≤ 2 ^ 87) → ((i : ℕ) → i < cells_of p → nat_abs (int_at p.gain i) ≤ 2 ^ 87)
    → HasFitWidth p mult
fits-small p mult program few whole small gains =
    width_within p mult program (2 ^ 87) small (2 ^ 87) (2 ^ 87 + 20 * 2 ^ 87) 40 few scaled
    (λ i h. rest_within p mult program (2 ^ 87) small i (2 ^ 87) (scaled i h)) (omega arith) (omega arith)
  where
    scaled : (i : ℕ) → i < cells_of p → nat_abs (mult.den *ℤ int_at p.gain i) ≤ 2 ^ 87
    scaled i h = let same : pos 1 *ℤ int_at p.gain i ≡ int_at p.gain i = omega (arith, ints) in rw (whole, same) (gains i h)

-- the worth, as far as a loop has come
pub worth_none : (f : ℕ → ℤ) → pos 0 ≡ sum_below 0 f
worth_none f = sym (sum_below-zero f)

pub worth_size : (a b : ℤ) (n : ℕ) → nat_abs a ≤ n * 2 ^ 117 → nat_abs b ≤ 2 ^ 117 → nat_abs (a +ℤ b) ≤ (n + 1) * 2 ^ 117
worth_size a b n before last = omega (arith, before, last, abs-add a b)

pub ruleset worth_steps = (worth_none, worth_size, sum_below-more)
