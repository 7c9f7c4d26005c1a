use Rattle.std.proofs.Common.{sym, subst, ◌∙◌}
use Rattle.std.proofs.lemmas.Result.{IfOk-weaker}
use Rattle.pc_program_bound.specs.Allocation.{IsProgram}
use Rattle.pc_proof.specs.Table.{ratio_of}
use Rattle.pc_check_rules.proofs.ScenePrograms.{towards_table}
use Rattle.pc_check_rules.proofs.SceneLimits.{towards_program}
use Rattle.pc_check_rules.proofs.programs.program_towards.Goals as goal

pub returns-clause-program : goal.returns-clause-program
returns-clause-program c =
    let scene = c.args.scene.now in
    IfOk-weaker c.made_towards.result _ _ (λ p is s of_scene. is ∙ towards_table scene c.args.extreme scene.agg (ratio_of c.args.value.now) s of_scene) c.made_towards.ensures

pub returns-clause-is_program : goal.returns-clause-is_program
returns-clause-is_program c =
    let scene = c.args.scene.now in
    IfOk-weaker c.made_towards.result _ _
    (λ p is. subst IsProgram (sym is) (towards_program scene.constraints.now c.requires.limited scene.cells.now (ratio_of c.args.value.now) c.args.extreme scene.agg)) c.made_towards.ensures
