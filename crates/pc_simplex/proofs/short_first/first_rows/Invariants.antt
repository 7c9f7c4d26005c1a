use Rattle.std.proofs.Common.{◌≡◌}
use Rattle.pc_simplex_tableau.specs.Numbers.{table}
use Rattle.pc_simplex.specs.Shorts.{first_short_row}
use Rattle.pc_simplex.proofs.short_first.first_rows.Given as goal

abbrev pub invariant-loop-constraint : goal.invariant-loop-constraint
invariant-loop-constraint l = l.rows.items ≡ table l.constraint (first_short_row l.p l.floor)
