use Rattle.std.proofs.Common.{map, sym, ◌∙◌}
use Rattle.std.proofs.lemmas.Result.{IfOk-weaker}
use Rattle.pc_model.specs.Cells.{Class}
use Rattle.pc_cells.specs.Found.{class_of_cell}
use Rattle.pc_proof.proofs.Masks.{map_twice}
use Rattle.pc_agg_search.proofs.programs.program_of.Goals as goal

pub returns : goal.returns
returns c = IfOk-weaker c.program_of.result _ _
    (λ program by_classes. by_classes (map class_of_cell c.args.cells.now) (sym (map_twice (λ (class : Class). class.mask) class_of_cell c.args.cells.now) ∙ sym c.in_ok-masks.ensures))
    c.program_of.ensures
