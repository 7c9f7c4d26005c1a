use Rattle.pc_proof.specs.Table.{ratio_of}
use Rattle.pc_check_rules.specs.Programs.{table_program}
use Rattle.pc_check_rules.proofs.TreeFindings.{verdict_of}
use Rattle.pc_check_rules.proofs.trees.judge_towards.Goals as goal

pub returns : goal.returns
returns c =
    λ s of_scene.
    verdict_of s c.args.line c.args.tree.now c.in_ok-program.program (table_program c.args.extreme s c.args.scene.now.agg (ratio_of c.args.value.now)) c.judge_tree.result
    (c.in_ok-program.ensures.program s of_scene) (rw c.as_slice.ensures at c.judge_tree.ensures)
