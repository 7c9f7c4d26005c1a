use Rattle.std.proofs.Common.{◌≡◌}
use Rattle.pc_simplex_tableau.specs.Numbers.{table}
use Rattle.pc_agg.specs.Keyed.{reach_gain}
use Rattle.pc_agg.proofs.rungs.reach_gains.Given as goal

abbrev pub invariant-loop-cell : goal.invariant-loop-cell
invariant-loop-cell l = l.gains ≡ table l.cell (reach_gain l.fn.cells l.fn.keys l.fn.rung)
