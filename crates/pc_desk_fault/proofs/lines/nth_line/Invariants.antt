use Rattle.std.proofs.Common.{◌≡◌, length}
use Rattle.pc_lang.specs.Files.{lines_of}
use Rattle.pc_desk_fault.specs.Lines.{nth}
use Rattle.pc_desk_fault.proofs.lines.nth_line.Given as goal

-- what is left decides
abbrev pub invariant-loop-line : goal.invariant-loop-line
invariant-loop-line l = nth l.before (lines_of l.text) ≡ nth l.left (lines_of l.rest)

abbrev pub decreases-loop-line : goal.decreases-loop-line
decreases-loop-line l = length l.rest
