use Rattle.std.proofs.Common.{◌<◌, ℕ, get_or}
use Rattle.pc_simplex_tableau.specs.Tableau.{TableauRow}
use Rattle.pc_simplex_tableau.specs.Conditions.{IsSizedRow}
use Rattle.pc_solver_trials.proofs.ready.are_sized.Given as goal

abbrev pub invariant-loop-row : goal.invariant-loop-row
invariant-loop-row l = (k : ℕ) (row : TableauRow) → k < l.row-index → IsSizedRow l.columns (get_or l.rows k row)
