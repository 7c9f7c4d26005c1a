use Rattle.std.proofs.Common.{vec_len}
use Rattle.pc_check_rules.specs.Walk.{IsLeaving}
use Rattle.pc_check_rules.proofs.walk.Walk.leave.Given as goal

abbrev pub invariant-loop-turn : goal.invariant-loop-turn
invariant-loop-turn l = IsLeaving l.fn.self l.floors l.turns.items

abbrev pub decreases-loop-turn : goal.decreases-loop-turn
decreases-loop-turn l = vec_len l.turns
