use Rattle.std.proofs.Common.{vec_len}
use Rattle.pc_program_bound.specs.Walk.{IsLeaving}
use Rattle.pc_program_bound.proofs.walk.Walk.leave.Given as goal

abbrev pub invariant-loop-split : goal.invariant-loop-split
invariant-loop-split l = IsLeaving l.fn.self l.floors l.splits.items

abbrev pub decreases-loop-split : goal.decreases-loop-split
decreases-loop-split l = vec_len l.splits
