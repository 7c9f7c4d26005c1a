use Rattle.std.specs.Prelude.{option_copied}
use Rattle.pc_check.proofs.Carrying.{IsCarrying}
use Rattle.pc_check.proofs.document.judge_blocks.Given as goal

abbrev pub invariant-loop-block : goal.invariant-loop-block
invariant-loop-block l = IsCarrying l.premises l.blocks l.block-index l.line (option_copied l.before) l.kept l.last
