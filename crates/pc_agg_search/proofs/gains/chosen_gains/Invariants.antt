use Rattle.std.proofs.Common.{◌≡◌}
use Rattle.pc_simplex_tableau.specs.Numbers.{table}
use Rattle.pc_agg_search.specs.Targets.{chosen_gain}
use Rattle.pc_agg_search.proofs.gains.chosen_gains.Given as goal

abbrev pub invariant-loop-cell : goal.invariant-loop-cell
invariant-loop-cell l = l.gains ≡ table l.cell (chosen_gain l.fn.cells l.fn.gain)
