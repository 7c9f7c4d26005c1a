use Rattle.std.proofs.Common.{◌≡◌}
use Rattle.pc_simplex_tableau.specs.Numbers.{table}
use Rattle.pc_simplex.specs.Floors.{number_at}
use Rattle.pc_simplex.proofs.first.first_numbers.Given as goal

abbrev pub invariant-loop-column : goal.invariant-loop-column
invariant-loop-column l = l.numbers.items ≡ table l.column (number_at l.p l.constraint l.left)
