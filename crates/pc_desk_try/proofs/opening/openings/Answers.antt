use Rattle.std.proofs.Common.{sym, subst}
use Rattle.std.proofs.lemmas.Result.{IfOk-weaker}
use Rattle.pc_model.specs.Boxes.{IsAreaOf}
use Rattle.pc_model.specs.declared.area.Area.{Area}
use Rattle.pc_model.proofs.Areas.{whole_is_area}
use Rattle.pc_cells.specs.Found.{AreCellsFor}
use Rattle.pc_desk_try.specs.Openings.{AreOpenings}
use Rattle.pc_desk_try.proofs.Classes.{are_openings}
use Rattle.pc_desk_try.proofs.opening.openings.Goals as goal

pub decompose-requires : goal.decompose-requires
decompose-requires c = record {
  asked = record {
    well_formed = c.requires.well_formed;
    few = c.requires.accepted.few;
    servable = c.requires.accepted.servable;
    area = subst (IsAreaOf c.args.schema.now) (sym c.in_ok-whole.ensures) (whole_is_area c.args.schema.now c.requires.well_formed);
  };
}

pub returns : goal.returns
returns c =
    let schema = c.args.schema.now in
    let constraints = c.args.constraints.now in
    let found = subst (λ (area : Area). AreCellsFor schema constraints area c.in_ok-found.found) c.in_ok-whole.ensures c.in_ok-found.ensures.found in
    record {
      opens = IfOk-weaker c.openings_of.result _ _ (λ openings made. subst (AreOpenings schema constraints) (sym made) (are_openings schema constraints c.in_ok-found.found found)) (rw c.as_slice.ensures at c.openings_of.ensures);
    }
