use Rattle.std.proofs.Common.{◌+◌}
use Rattle.pc_avg_ratio.specs.Fractional.{ratio_with}
use Rattle.pc_avg_ratio.proofs.StepsOn.{HasGoneOn}
use Rattle.pc_avg_ratio.proofs.steps.greatest_ratio.Given as goal

abbrev pub invariant-loop-next : goal.invariant-loop-next
invariant-loop-next l = HasGoneOn l.f (ratio_with l.f l.fn.start) l.standing

abbrev pub decreases-loop-next : goal.decreases-loop-next
decreases-loop-next l = l.standing.limit + l.standing.tries
