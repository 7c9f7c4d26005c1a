use Rattle.std.proofs.Common.{◌≡◌, take}
use Rattle.pc_report.specs.Summary.{summary_lines}
use Rattle.pc_report.proofs.summary.lines_of.Given as goal

abbrev pub invariant-loop-block : goal.invariant-loop-block
invariant-loop-block l = l.text.items ≡ summary_lines l.schema (take l.block-index l.blocks)
