use Rattle.std.proofs.Common.{◌≡◌, to_z, of_z, ap, ◌∙◌}
use Rattle.std.specs.Int.{w128}
use Rattle.std.proofs.lemmas.Int.{to_z-of_z}
use Rattle.pc_proof.specs.Setting.{program_for}
use Rattle.pc_check_rules.proofs.TreeFindings.{verdict_of}
use Rattle.pc_check_rules.proofs.trees.judge_even.Goals as goal

pub returns : goal.returns
returns c =
    let gain = c.args.gain in
    let gain_is : to_z w128 (of_z w128 gain) ≡ gain = to_z-of_z w128 gain c.ranges.gain in
    λ s of_scene.
    verdict_of s c.args.line c.args.tree.now c.in_ok-program.program (program_for s (λ class. gain)) c.judge_tree.result
    (c.in_ok-program.ensures.program s of_scene ∙ ap (λ each. program_for s (λ class. each)) gain_is) (rw c.as_slice.ensures at c.judge_tree.ensures)
