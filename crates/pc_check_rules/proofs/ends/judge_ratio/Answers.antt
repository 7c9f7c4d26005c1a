use Rattle.pc_proof.specs.Table.{ratio_of}
use Rattle.pc_check_rules.proofs.TreeFindings.{end_of_ratio}
use Rattle.pc_check_rules.proofs.ends.judge_ratio.Goals as goal

pub returns : goal.returns
returns c = λ s of_scene.
    let average = c.requires.average in
    end_of_ratio c.args.scene.now s of_scene average c.args.extreme (ratio_of c.args.value.now) c.args.ratio.now c.args.line c.args.tree.now c.in_ok-most.most c.ratio_shows.result
    (rw average at (c.in_ok-most.ensures s of_scene)) c.ratio_shows.ensures
