use Rattle.std.proofs.Common.{sym, subst}
use Rattle.pc_model.specs.declared.query.Folded.{Folded}
use Rattle.pc_model.specs.declared.query.Query.{Query}
use Rattle.pc_model.specs.Boxes.{IsAreaOf}
use Rattle.pc_model.proofs.Areas.{whole_is_area}
use Rattle.pc_cells.specs.Found.{AreCellsFor}
use Rattle.pc_agg_search.specs.Asked.{AreAsked}
use Rattle.pc_conflict.specs.Testing.{all_rows}
use Rattle.pc_conflict.proofs.Settled.{are_asked}
use Rattle.pc_desk_short.proofs.multipliers.weights_of.Goals as goal

pub decompose-requires : goal.decompose-requires
decompose-requires c = record {
  asked = record {
    well_formed = c.requires.well_formed;
    few = c.requires.accepted.few;
    servable = c.requires.accepted.servable;
    area = subst (λ (q : Query). IsAreaOf c.args.schema.now q.chosen) (sym c.in_ok-query.ensures) (whole_is_area c.args.schema.now c.requires.well_formed);
  };
}

pub settle-requires : goal.settle-requires
settle-requires c =
    let schema = c.args.schema.now in
    let constraints = c.args.constraints.now in
    let cells = c.in_ok-cells.cells in
    let found = subst (λ (q : Query). AreCellsFor schema constraints q.chosen cells) c.in_ok-query.ensures c.in_ok-cells.ensures.found in
    record {
      asked =
          subst (λ (q : Query). AreAsked schema c.none_seen-seen.result constraints cells q c.args.nodes) (sym c.in_ok-query.ensures)
          (subst (λ (f : Folded). AreAsked schema f constraints cells (all_rows schema) c.args.nodes) (sym c.none_seen-seen.ensures)
          (are_asked schema constraints c.args.nodes c.requires.well_formed c.requires.accepted c.requires.nodes cells found));
    }
