use Rattle.std.proofs.Common.{take}
use Rattle.pc_agg_search.specs.Targets.{AreTargets}
use Rattle.pc_agg_search.proofs.targets.targets_of.Given as goal

abbrev pub invariant-loop-cell : goal.invariant-loop-cell
invariant-loop-cell l = AreTargets l.column l.extreme (take l.cell l.cells.cells) l.gains.items l.picks.items
