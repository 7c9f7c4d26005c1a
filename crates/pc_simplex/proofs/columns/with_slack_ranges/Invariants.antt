use Rattle.std.proofs.Common.{◌≡◌, ◌++◌}
use Rattle.pc_simplex_tableau.specs.Numbers.{table}
use Rattle.pc_simplex_tableau.specs.Relaxation.{slack_range}
use Rattle.pc_simplex.proofs.columns.with_slack_ranges.Given as goal

abbrev pub invariant-loop-constraint : goal.invariant-loop-constraint
invariant-loop-constraint l = l.ranges ≡ l.fn.cells ++ table l.constraint (slack_range l.p)
