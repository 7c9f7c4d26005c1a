use Rattle.std.proofs.Common.{◌≡◌}
use Rattle.pc_simplex_tableau.specs.Numbers.{table}
use Rattle.pc_simplex.specs.Floors.{does_start_turned}
use Rattle.pc_simplex.proofs.first.first_turned.Given as goal

abbrev pub invariant-loop-column : goal.invariant-loop-column
invariant-loop-column l = l.turned.items ≡ table l.column (does_start_turned l.p l.floor)
