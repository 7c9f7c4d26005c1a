use Rattle.std.proofs.Common.{◌≡◌, length}
use Rattle.pc_desk_schema.specs.Numbers.{behind_point}
use Rattle.pc_desk_schema.proofs.numbers.behind_point.Given as goal

abbrev pub invariant-loop-text : goal.invariant-loop-text
invariant-loop-text l = behind_point l.text ≡ behind_point l.fn.text

abbrev pub decreases-loop-text : goal.decreases-loop-text
decreases-loop-text l = length l.text
