use Rattle.std.proofs.Common.{map, sym, ◌∙◌}
use Rattle.std.proofs.lemmas.Result.{IfOk-weaker}
use Rattle.pc_check_rules.specs.Cells.{class_of_cell}
use Rattle.pc_check_rules.proofs.ScenePrograms.{cell_masks}
use Rattle.pc_check_rules.proofs.programs.program_on.Goals as goal

pub returns : goal.returns
returns c = IfOk-weaker c.program_of.result _ _ (λ p is. is (map class_of_cell c.args.scene.now.cells.now) (cell_masks c.args.scene.now.cells.now ∙ sym (c.in_ok-masks.ensures))) c.program_of.ensures
