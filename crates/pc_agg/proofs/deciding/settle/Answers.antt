use Rattle.std.proofs.Common.{nat_lt, sym, subst, ◌∙◌}
use Rattle.std.proofs.lemmas.Result.{IfOk-weaker}
use Rattle.pc_agg_search.proofs.Posing.{asked}
use Rattle.pc_agg.proofs.Owing.{owes_settled}
use Rattle.pc_agg_search.specs.Settings.{unseen}
use Rattle.pc_agg.specs.ShownRows.{LackShown}
use Rattle.pc_agg.proofs.ShownRows.{settled_shown}
use Rattle.pc_agg.proofs.SettledGrounds.{owes_grounded, observing_count, grounded_lawful, settled_lawful}
use Rattle.pc_agg.proofs.Totals.{ok_both}
use Rattle.pc_agg.proofs.deciding.settle.Goals as goal

pub settle_totals-requires : goal.settle_totals-requires
settle_totals-requires c = record { posed = (asked _ c.args.seen.now c.requires.asked).posed }

pub ground-requires : goal.ground-requires
ground-requires c = record { posed = (asked _ c.args.seen.now c.requires.asked).posed }

pub settle_grounded-requires-clause-posed : goal.settle_grounded-requires-clause-posed
settle_grounded-requires-clause-posed c = (asked _ c.args.seen.now c.requires.asked).posed

pub returns-then-always_has_value : goal.returns-then-always_has_value
returns-then-always_has_value c = record {
  lawful = IfOk-weaker c.settle_totals.result _ _ (λ settled is. is.lawful) c.settle_totals.ensures.settled;
  owes =
      ok_both c.settle_totals.result _ _ _ c.settle_totals.ensures.settled c.settle_totals.ensures.nested
      (λ settled is decided asking.
      owes_settled c.args.schema.now c.args.constraints.now c.args.query.now c.args.seen.now c.args.cells.now.tree.nodes c.requires.asked.formed c.requires.asked.limited
      c.requires.asked.found.tree c.args.nodes asking settled (sym c.always_has_value.ensures ∙ c.if-always_has_value.true) is decided);
  rows = IfOk-weaker c.settle_totals.result _ _ (λ settled is. (is.shown, subst (LackShown (unseen c.args.schema.now c.args.constraints.now c.args.query.now c.args.cells.now.tree.nodes)) (sym is.lack) tt)) c.settle_totals.ensures.settled;
}

pub returns : goal.returns
returns c = record {
  lawful =
      IfOk-weaker c.settle_grounded.result _ _
      (λ settled from. settled_lawful (unseen c.args.schema.now c.args.constraints.now c.args.query.now c.args.cells.now.tree.nodes) c.in_ok-grounded.grounded settled
      (grounded_lawful (unseen c.args.schema.now c.args.constraints.now c.args.query.now c.args.cells.now.tree.nodes) (nat_lt 0 c.args.seen.now.count) c.args.nodes c.in_ok-grounded.grounded c.in_ok-grounded.ensures.grounded) from)
      c.settle_grounded.ensures;
  owes =
      IfOk-weaker c.settle_grounded.result _ _
      (λ settled from asking.
      owes_grounded c.args.schema.now c.args.constraints.now c.args.query.now c.args.seen.now c.args.cells.now.tree.nodes c.requires.asked.formed c.requires.asked.limited
      c.requires.asked.found.tree c.args.nodes asking (sym c.always_has_value.ensures ∙ c.if-always_has_value.false) (nat_lt 0 c.args.seen.now.count)
      (observing_count c.args.schema.now c.args.constraints.now c.args.query.now c.args.seen.now c.args.cells.now.tree.nodes asking) c.in_ok-grounded.grounded settled c.in_ok-grounded.ensures.grounded c.in_ok-grounded.ensures.nested from)
      c.settle_grounded.ensures;
  rows =
      IfOk-weaker c.settle_grounded.result _ _
      (λ settled from. settled_shown (unseen c.args.schema.now c.args.constraints.now c.args.query.now c.args.cells.now.tree.nodes) c.in_ok-grounded.grounded settled from)
      c.settle_grounded.ensures;
}
