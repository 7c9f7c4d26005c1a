use Rattle.std.proofs.Common.{◌-◌}
use Rattle.pc_agg_search.specs.Problem.{IsEasyFor}
use Rattle.pc_quantile.specs.Climbing.{IsSpan, IsSureSpan}
use Rattle.pc_quantile.specs.Measure.{cells_for}
use Rattle.pc_quantile.proofs.climb.climb.Given as goal

abbrev pub invariant-loop-span : goal.invariant-loop-span
invariant-loop-span l =
    IsSpan (cells_for l.measure) l.measure.problem.nodes l.measure.seen.now l.ladder.extreme l.measure.asked.now l.ladder.rungs l.fn.found l.span
    × (IsEasyFor l.measure.problem → IsSureSpan (cells_for l.measure) l.measure.seen.now l.ladder.extreme l.measure.asked.now l.ladder.rungs l.span)

abbrev pub decreases-loop-span : goal.decreases-loop-span
decreases-loop-span l = l.span.to - l.span.from
