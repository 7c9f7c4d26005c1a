use Rattle.std.proofs.Common.{◌≡◌}
use Rattle.pc_simplex_tableau.specs.Numbers.{table}
use Rattle.pc_simplex_tableau.specs.Standing.{gain_two}
use Rattle.pc_simplex.proofs.setting.all_gains.Given as goal

abbrev pub invariant-loop-column : goal.invariant-loop-column
invariant-loop-column l = l.gains ≡ table l.column (gain_two l.p)
