use Rattle.std.proofs.Common.{All, take}
use Rattle.pc_simplex_tableau.specs.Conditions.{IsFitRow}
use Rattle.pc_solver_trials.proofs.ready.are_fit_rows.Given as goal

abbrev pub invariant-loop-row : goal.invariant-loop-row
invariant-loop-row l = All IsFitRow (take l.row-index l.rows)
