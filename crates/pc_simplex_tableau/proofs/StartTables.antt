-- Rows that are mixed of no constraint.
use Rattle.std.proofs.Common.{◌≡◌, ℕ, ◌<◌, cond, ◌∙◌, arith}
use Rattle.std.specs.Prelude.{ℤ, pos}
use Rattle.std.proofs.lemmas.Int.{ints}
use Rattle.pc_model.specs.Places.{has_bit}
use Rattle.pc_program_bound.specs.declared.program.Program.{Program}
use Rattle.pc_program_bound.specs.Sums.{sum_below, nat_at}
use Rattle.pc_program_bound.specs.Allocation.{constraints_of}
use Rattle.pc_program_bound.proofs.SumBelow.{none_chosen, sum_below-none}
use Rattle.pc_simplex_tableau.specs.Relaxation.{slack_of, helper_of, columns_of}
use Rattle.pc_simplex_tableau.specs.Standing.{IsMixed}

-- numbers that are the gain itself, which the slacks have none of
pub IsMixed-gain : (p : Program) (gain x : ℕ → ℤ) → ((k : ℕ) → k < columns_of p → x k ≡ gain k)
    → ((j : ℕ) → j < constraints_of p → gain (slack_of p j) ≡ pos 0) → IsMixed p (pos 1) gain x
IsMixed-gain p gain x each none = record {
  cells = λ i lt. (let sum = nothing i in let own = each i (omega (arith, lt)) in omega (arith, ints, sum, own));
  helpers = λ j lt. (let own = each (helper_of p j) (omega (arith, lt)) in let slack = at_slack j lt in omega (arith, ints, own, slack));
}
  where
    at_slack : (j : ℕ) → j < constraints_of p → x (slack_of p j) ≡ pos 0
    at_slack j lt = each (slack_of p j) (omega (arith, lt)) ∙ none j lt

    nothing : (i : ℕ) → sum_below (constraints_of p) (λ j. cond (has_bit (nat_at p.masks i) j) (x (slack_of p j)) (pos 0)) ≡ pos 0
    nothing i = sum_below-none (constraints_of p) (λ j. cond (has_bit (nat_at p.masks i) j) (x (slack_of p j)) (pos 0))
        (λ j lt. none_chosen (has_bit (nat_at p.masks i) j) (x (slack_of p j)) (at_slack j lt))

-- what is mixed with no gain is so whatever the gain
pub IsMixed-any_gain : (p : Program) (gain other x : ℕ → ℤ) → IsMixed p (pos 0) gain x → IsMixed p (pos 0) other x
IsMixed-any_gain p gain other x mixed = record {
  cells = λ i lt. (let own = mixed.cells i lt in omega (arith, ints, own));
  helpers = λ j lt. (let own = mixed.helpers j lt in omega (arith, ints, own));
}
