-- The total of a constraint, as far as a loop has come.
use Rattle.std.proofs.Common.{◌≡◌, ℕ, ◌+◌, List, cond, sym, arith}
use Rattle.std.specs.Prelude.{pos}
use Rattle.std.proofs.lemmas.Int.{ints}
use Rattle.pc_model.specs.Places.{has_bit}
use Rattle.pc_program_bound.specs.declared.program.Program.{Program}
use Rattle.pc_program_bound.specs.Sums.{sum_below, nat_at}
use Rattle.pc_program_bound.specs.Allocation.{count_for}
use Rattle.pc_program_bound.proofs.SumBelow.{sum_below-zero, sum_below-more}

pub total_none : (p : Program) (counts : List ℕ) (j : ℕ) → pos 0 ≡ sum_below 0 (count_for p counts j)
total_none p counts j = sym (sum_below-zero (count_for p counts j))

pub total_more : (p : Program) (counts : List ℕ) (j cell sum count : ℕ) → pos sum ≡ sum_below cell (count_for p counts j)
    → pos count ≡ cond (has_bit (nat_at p.masks cell) j) (pos (nat_at counts cell)) (pos 0) → pos (sum + count) ≡ sum_below (cell + 1) (count_for p counts j)
total_more p counts j cell sum count before last = omega (arith, ints, before, last, sum_below-more cell (count_for p counts j))

pub ruleset total_steps = (total_none, total_more)
