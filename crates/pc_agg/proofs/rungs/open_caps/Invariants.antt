use Rattle.std.proofs.Common.{◌≡◌}
use Rattle.pc_simplex_tableau.specs.Numbers.{table}
use Rattle.pc_agg.specs.Keyed.{avoid_cap}
use Rattle.pc_agg.proofs.rungs.open_caps.Given as goal

abbrev pub invariant-loop-cell : goal.invariant-loop-cell
invariant-loop-cell l = l.left ≡ table l.cell (avoid_cap l.fn.cells l.fn.keys l.fn.caps l.fn.rung)
