use Rattle.std.proofs.Common.{◌≡◌, ◌+◌, ◌≤◌, ◌++◌, length}
use Rattle.pc_lang.specs.Files.{lines_of}
use Rattle.pc_script.specs.Numbers.{said_from}
use Rattle.pc_script.proofs.numbers.said_in_text.Given as goal

abbrev pub invariant-loop-line : goal.invariant-loop-line
invariant-loop-line l = record {
  same : l.numbers ++ said_from l.number (lines_of l.rest) ≡ said_from 1 (lines_of l.text);
  counted : l.number + length l.rest ≤ length l.text + 1;
}

abbrev pub decreases-loop-line : goal.decreases-loop-line
decreases-loop-line l = length l.rest
