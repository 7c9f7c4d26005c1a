use Rattle.std.proofs.Common.{◌≡◌, ◌&&◌, not, pos, None}
use Rattle.std.specs.Prelude.{int_lt}
use Rattle.pc_program_bound.specs.Sums.{int_at}
use Rattle.pc_simplex_tableau.specs.Numbers.{first_below}
use Rattle.pc_simplex_tableau.specs.Tableau.{is_basic}
use Rattle.pc_simplex_tableau.proofs.choice.entering.Given as goal

abbrev pub invariant-loop-column : goal.invariant-loop-column
invariant-loop-column l = first_below l.column (λ k. not (is_basic l.tableau k) && int_lt (pos 0) (int_at l.tableau.aim k)) ≡ None
