use Rattle.std.proofs.Common.{◌≡◌, length, to_z, of_z, sym, ap, subst, ◌∙◌}
use Rattle.std.specs.Prelude.{replicate}
use Rattle.std.specs.Int.{w128}
use Rattle.std.proofs.lemmas.Int.{to_z-of_z}
use Rattle.std.proofs.lemmas.List.{length-replicate}
use Rattle.std.proofs.lemmas.Result.{IfOk-weaker}
use Rattle.pc_program_bound.specs.Allocation.{IsProgram}
use Rattle.pc_check_rules.proofs.ScenePrograms.{even_table}
use Rattle.pc_check_rules.proofs.SceneLimits.{on_program}
use Rattle.pc_check_rules.proofs.programs.even_program.Goals as goal

pub returns-clause-program : goal.returns-clause-program
returns-clause-program c =
    let scene = c.args.scene.now in
    let gain_is : to_z w128 (of_z w128 c.args.gain) ≡ c.args.gain = to_z-of_z w128 c.args.gain c.ranges.gain in
    let gains_are : c.from_vec.result ≡ replicate (length scene.cells.now) c.args.gain =
    c.from_vec.ensures ∙ c.in_ok-gains.ensures.items_if_clones_equal (λ y same. same) ∙ ap (replicate (length scene.cells.now)) gain_is in
    IfOk-weaker c.program_on.result _ _ (λ p is s of_scene. is ∙ even_table scene c.args.gain c.from_vec.result s gains_are of_scene) c.program_on.ensures

pub returns-clause-is_program : goal.returns-clause-is_program
returns-clause-is_program c =
    let scene = c.args.scene.now in
    let gains_are = c.from_vec.ensures ∙ c.in_ok-gains.ensures.items_if_clones_equal (λ y same. same) in
    let long : length c.from_vec.result ≡ length scene.cells.now = ap length gains_are ∙ length-replicate _ _ in
    IfOk-weaker c.program_on.result _ _ (λ p is. subst IsProgram (sym is) (on_program scene.constraints.now c.requires.limited scene.cells.now c.from_vec.result long)) c.program_on.ensures
