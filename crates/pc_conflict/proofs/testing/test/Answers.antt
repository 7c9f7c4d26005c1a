use Rattle.std.proofs.Common.{sym, subst}
use Rattle.pc_model.specs.declared.query.Folded.{Folded}
use Rattle.pc_model.specs.declared.query.Query.{Query}
use Rattle.pc_model.specs.Boxes.{IsAreaOf}
use Rattle.pc_model.proofs.Areas.{whole_is_area}
use Rattle.pc_cells.specs.Found.{AreCellsFor}
use Rattle.pc_agg_search.specs.Asked.{AreAsked}
use Rattle.pc_agg.specs.Calls.{OwesSettling}
use Rattle.pc_conflict.specs.Testing.{IsTested, IsTestedSurely, all_rows}
use Rattle.pc_conflict.proofs.Settled.{are_asked, settled_surely, settled_tests}
use Rattle.pc_conflict.proofs.testing.test.Goals as goal

pub decompose-requires : goal.decompose-requires
decompose-requires c = record {
  asked = record {
    well_formed = c.requires.well_formed;
    few = c.requires.accepted.few;
    servable = c.requires.accepted.servable;
    area = subst (λ (q : Query). IsAreaOf c.args.schema.now q.chosen) (sym c.in_ok-query.ensures) (whole_is_area c.args.schema.now c.requires.well_formed);
  };
}

pub settle-requires : goal.settle-requires
settle-requires c =
    let schema = c.args.schema.now in
    let constraints = c.args.constraints.now in
    let cells = c.in_ok-cells.cells in
    let found = subst (λ (q : Query). AreCellsFor schema constraints q.chosen cells) c.in_ok-query.ensures c.in_ok-cells.ensures.found in
    record {
      asked =
          subst (λ (q : Query). AreAsked schema c.none_seen-seen.result constraints cells q c.args.nodes) (sym c.in_ok-query.ensures)
          (subst (λ (f : Folded). AreAsked schema f constraints cells (all_rows schema) c.args.nodes) (sym c.none_seen-seen.ensures)
          (are_asked schema constraints c.args.nodes c.requires.well_formed c.requires.accepted c.requires.nodes cells found));
    }

pub returns-clause-tested : goal.returns-clause-tested
returns-clause-tested c =
    let schema = c.args.schema.now in
    let constraints = c.args.constraints.now in
    let cells = c.in_ok-cells.cells in
    let found = subst (λ (q : Query). AreCellsFor schema constraints q.chosen cells) c.in_ok-query.ensures c.in_ok-cells.ensures.found in
    let owes =
    subst (λ (f : Folded). OwesSettling schema f constraints cells (all_rows schema) c.args.nodes c.in_ok-settled.settled) c.none_seen-seen.ensures
    (subst (λ (q : Query). OwesSettling schema c.none_seen-seen.result constraints cells q c.args.nodes c.in_ok-settled.settled) c.in_ok-query.ensures c.in_ok-settled.ensures.owes) in
    subst (IsTested schema constraints c.args.nodes) (sym c.tested_as.ensures) (settled_tests schema constraints c.args.nodes c.requires.well_formed cells found c.in_ok-settled.settled owes)

pub returns-clause-nested : goal.returns-clause-nested
returns-clause-nested c = λ easy.
    let schema = c.args.schema.now in
    let constraints = c.args.constraints.now in
    let cells = c.in_ok-cells.cells in
    let found = subst (λ (q : Query). AreCellsFor schema constraints q.chosen cells) c.in_ok-query.ensures c.in_ok-cells.ensures.found in
    let owes =
    subst (λ (f : Folded). OwesSettling schema f constraints cells (all_rows schema) c.args.nodes c.in_ok-settled.settled) c.none_seen-seen.ensures
    (subst (λ (q : Query). OwesSettling schema c.none_seen-seen.result constraints cells q c.args.nodes c.in_ok-settled.settled) c.in_ok-query.ensures c.in_ok-settled.ensures.owes) in
    subst IsTestedSurely (sym c.tested_as.ensures) (settled_surely schema constraints c.args.nodes c.requires.well_formed cells found c.in_ok-settled.settled owes easy)
