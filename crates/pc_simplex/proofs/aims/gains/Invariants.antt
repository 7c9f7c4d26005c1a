use Rattle.std.proofs.Common.{◌≡◌}
use Rattle.pc_simplex_tableau.specs.Numbers.{table}
use Rattle.pc_simplex.specs.Aims.{gain_at}
use Rattle.pc_simplex.proofs.aims.gains.Given as goal

abbrev pub invariant-loop-column : goal.invariant-loop-column
invariant-loop-column l = l.aim.items ≡ table l.column (gain_at l.p l.turned)
