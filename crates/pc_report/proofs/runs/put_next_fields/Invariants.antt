use Rattle.std.proofs.Common.{◌≡◌, ◌++◌, drop}
use Rattle.pc_report.specs.RunLines.{next_fields_text}
use Rattle.pc_report.proofs.runs.put_next_fields.Given as goal

abbrev pub invariant-loop-place : goal.invariant-loop-place
invariant-loop-place l = l.out.items ++ next_fields_text (drop l.place l.columns) (drop l.place l.cells) ≡ l.fn.out.items ++ next_fields_text l.columns l.cells
