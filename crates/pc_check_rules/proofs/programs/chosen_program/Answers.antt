use Rattle.std.proofs.Common.{◌≡◌, length, map, to_z, of_z, sym, ap, subst, ◌∙◌}
use Rattle.std.specs.Int.{w128}
use Rattle.std.proofs.lemmas.Int.{to_z-of_z}
use Rattle.std.proofs.lemmas.List.{length-map}
use Rattle.std.proofs.lemmas.Result.{IfOk-weaker}
use Rattle.pc_program_bound.specs.Allocation.{IsProgram}
use Rattle.pc_check_rules.specs.Programs.{chosen_gain}
use Rattle.pc_check_rules.proofs.ScenePrograms.{chosen_table}
use Rattle.pc_check_rules.proofs.SceneLimits.{on_program}
use Rattle.pc_check_rules.proofs.programs.chosen_program.Goals as goal

pub returns-clause-program : goal.returns-clause-program
returns-clause-program c =
    let scene = c.args.scene.now in
    let gain_is : to_z w128 (of_z w128 c.args.gain) ≡ c.args.gain = to_z-of_z w128 c.args.gain c.ranges.gain in
    let gains_are : c.in_ok-gains.gains ≡ map (chosen_gain c.args.gain) scene.cells.now = c.in_ok-gains.ensures ∙ ap (λ gain. map (chosen_gain gain) scene.cells.now) gain_is in
    IfOk-weaker c.program_on.result _ _ (λ p is s of_scene. is ∙ chosen_table scene c.args.gain c.in_ok-gains.gains s gains_are of_scene) c.program_on.ensures

pub returns-clause-is_program : goal.returns-clause-is_program
returns-clause-is_program c =
    let scene = c.args.scene.now in
    let passed = to_z w128 (of_z w128 c.args.gain) in
    let gains_are : c.in_ok-gains.gains ≡ map (chosen_gain passed) scene.cells.now = c.in_ok-gains.ensures in
    let long : length c.in_ok-gains.gains ≡ length scene.cells.now = ap length gains_are ∙ length-map scene.cells.now (chosen_gain passed) in
    IfOk-weaker c.program_on.result _ _ (λ p is. subst IsProgram (sym is) (on_program scene.constraints.now c.requires.limited scene.cells.now c.in_ok-gains.gains long)) c.program_on.ensures
