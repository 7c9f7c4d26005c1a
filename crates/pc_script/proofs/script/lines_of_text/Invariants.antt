use Rattle.std.proofs.Common.{◌≡◌, ◌+◌, ◌≤◌, length, []}
use Rattle.pc_model.specs.Accepted.{AreConstraints}
use Rattle.pc_lang.specs.Files.{lines_of}
use Rattle.pc_script.specs.Reading.{IsReadingOf}
use Rattle.pc_script.specs.Script.{lines_from}
use Rattle.pc_script.proofs.script.lines_of_text.Given as goal

abbrev pub invariant-loop-line : goal.invariant-loop-line
invariant-loop-line l = record {
  same : lines_from l.schema (record { rows = l.rows; constraints = l.constraints }) l.place l.reading.lines (lines_of l.rest) ≡ lines_from l.schema (record { rows = l.rows; constraints = l.constraints }) 1 [] (lines_of l.text);
  reading : IsReadingOf l.schema (record { rows = l.rows; constraints = l.constraints }) l.reading;
  accepted : AreConstraints l.schema l.reading.known.constraints;
  counted : l.place + length l.rest ≤ length l.text + 1;
}

abbrev pub decreases-loop-line : goal.decreases-loop-line
decreases-loop-line l = length l.rest
