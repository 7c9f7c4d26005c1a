use Rattle.std.proofs.Common.{◌≡◌}
use Rattle.pc_simplex_tableau.specs.Numbers.{table}
use Rattle.pc_quantile.specs.Passing.{passing_gain}
use Rattle.pc_quantile.proofs.past.gains_past.Given as goal

abbrev pub invariant-loop-cell : goal.invariant-loop-cell
invariant-loop-cell l = l.gains ≡ table l.cell (passing_gain l.fn.asked l.fn.extreme l.fn.cells l.fn.keys l.fn.key)
