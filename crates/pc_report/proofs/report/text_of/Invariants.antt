use Rattle.std.proofs.Common.{◌≡◌, take}
use Rattle.pc_report.specs.Report.{blocks_text}
use Rattle.pc_report.proofs.report.text_of.Given as goal

abbrev pub invariant-loop-block : goal.invariant-loop-block
invariant-loop-block l = l.text.items ≡ blocks_text l.schema (take l.block-index l.blocks)
