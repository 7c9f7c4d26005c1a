use Rattle.std.proofs.Common.{◌≡◌}
use Rattle.pc_simplex_tableau.specs.Numbers.{table}
use Rattle.pc_simplex_tableau.specs.Standing.{gain_one}
use Rattle.pc_simplex.proofs.first.first_aim.Given as goal

abbrev pub invariant-loop-column : goal.invariant-loop-column
invariant-loop-column l = l.aim.items ≡ table l.column (gain_one l.p l.floor)
