use Rattle.std.proofs.Common.{◌-◌}
use Rattle.pc_agg.specs.Climbing.{IsSpan, IsSureSpan}
use Rattle.pc_agg_search.specs.Problem.{IsEasyFor, setting_of}
use Rattle.pc_agg.proofs.Testing.{AreOnTheWay}
use Rattle.pc_agg.proofs.climb.climb.Given as goal

abbrev pub invariant-loop-span : goal.invariant-loop-span
invariant-loop-span l =
    IsSpan (setting_of l.problem) l.problem.nodes l.ladder l.want l.fn.found l.span
    × (IsEasyFor l.problem → IsSureSpan (setting_of l.problem) l.ladder l.want l.span)
    × AreOnTheWay (setting_of l.problem) l.problem.nodes l.ladder l.want l.fn.found l.span

abbrev pub decreases-loop-span : goal.decreases-loop-span
decreases-loop-span l = l.span.to - l.span.from
