use Rattle.std.proofs.Common.{◌≡◌, length}
use Rattle.pc_script.specs.Script.{after_blanks}
use Rattle.pc_desk_fault.proofs.words.after_blanks.Given as goal

abbrev pub invariant-loop-text : goal.invariant-loop-text
invariant-loop-text l = after_blanks l.text ≡ after_blanks l.fn.text

abbrev pub decreases-loop-text : goal.decreases-loop-text
decreases-loop-text l = length l.text
