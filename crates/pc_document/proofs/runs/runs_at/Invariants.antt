use Rattle.std.proofs.Common.{◌≡◌, ◌-◌, length}
use Rattle.pc_document_format.specs.Formats.{after_items}
use Rattle.pc_document.specs.Places.{IsLineStart, lines_at}
use Rattle.pc_document.specs.Reading.{read_runs}
use Rattle.pc_document.proofs.runs.runs_at.Given as goal

abbrev pub invariant-loop-line : goal.invariant-loop-line
invariant-loop-line l =
    (after_items l.runs (read_runs l.fn.schema (lines_at l.bytes l.at)) ≡ read_runs l.fn.schema (lines_at l.bytes l.start)) × IsLineStart l.bytes l.at

abbrev pub decreases-loop-line : goal.decreases-loop-line
decreases-loop-line l = length l.bytes - l.at
