use Rattle.std.proofs.Common.{◌≡◌, []}
use Rattle.pc_simplex_tableau.specs.Numbers.{table}
use Rattle.pc_simplex_tableau.specs.Relaxation.{first_row}
use Rattle.pc_simplex.proofs.first.first_rows.Given as goal

abbrev pub invariant-loop-constraint : goal.invariant-loop-constraint
invariant-loop-constraint l = l.rows.items ≡ table l.constraint (first_row l.p l.floor [])
