use Rattle.std.proofs.Common.{◌≡◌, ◌+◌, ◌≤◌, length, get_or}
use Rattle.pc_lang.specs.Files.{constraint_lines, lines_of}
use Rattle.pc_lang.proofs.files.number_in.Given as goal

-- what is left has the line that is looked for
abbrev pub invariant-loop-line : goal.invariant-loop-line
invariant-loop-line l = record {
  same : get_or (constraint_lines l.number (lines_of l.rest)) l.before 0 ≡ get_or (constraint_lines 1 (lines_of l.text)) l.place 0;
  counted : l.number + length l.rest ≤ length l.text + 1;
}

abbrev pub decreases-loop-line : goal.decreases-loop-line
decreases-loop-line l = length l.rest
