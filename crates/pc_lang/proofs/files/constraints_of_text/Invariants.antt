use Rattle.std.proofs.Common.{◌≡◌, ◌+◌, ◌≤◌, length, []}
use Rattle.pc_model.specs.Accepted.{AreConstraints}
use Rattle.pc_lang.specs.Files.{constraints_from, lines_of}
use Rattle.pc_lang.proofs.files.constraints_of_text.Given as goal

abbrev pub invariant-loop-line : goal.invariant-loop-line
invariant-loop-line l = record {
  same : constraints_from l.schema l.place l.constraints (lines_of l.rest) ≡ constraints_from l.schema 1 l.fn.before (lines_of l.text);
  accepted : AreConstraints l.schema l.constraints;
  counted : l.place + length l.rest ≤ length l.text + 1;
}

abbrev pub decreases-loop-line : goal.decreases-loop-line
decreases-loop-line l = length l.rest
