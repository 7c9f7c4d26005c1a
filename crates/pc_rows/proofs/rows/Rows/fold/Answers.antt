use Rattle.std.proofs.Common.{◌∙◌, ◌<◌, ◌≤◌, length, sym}
use Rattle.pc_rows.proofs.Folding.{fold_none, fold_yes, fold_no, fold_all, keeps_all}
use Rattle.pc_rows.proofs.Storing.{length-rows_in}
use Rattle.pc_rows.proofs.rows.Rows.fold.Goals as goal
use Rattle.pc_rows.proofs.rows.Rows.fold.Goals.{then-has_row, else-has_row}

pub has_row-requires : goal.has_row-requires
has_row-requires c = rw (← c.self.view_is, length-rows_in) c.loop-place-test.true

pub with_row-folded-requires-clause-inside : goal.with_row-folded-requires-clause-inside
with_row-folded-requires-clause-inside c = rw (← c.self.view_is, length-rows_in) c.loop-place-test.true

pub loop-place-init : goal.loop-place-init
loop-place-init c = rw c.nothing-folded.ensures (fold_none _ _ _)

pub loop-place-preserved : goal.loop-place-preserved
loop-place-preserved c =
    let below : c.loop-place.place < length c.args.self.now = rw (← c.self.view_is, length-rows_in) c.loop-place-test.true in
    elim c.if-has_row.branch [
      | then-has_row w ↦ rw w.folded-is (fold_yes _ _ _ _ _ _ below c.loop-place.invariant (keeps_all c.args.query.now _ _ (sym c.has_row.ensures ∙ w.if-has_row.true)) w.with_row-folded.ensures.more w.with_row-folded.ensures.small)
      | else-has_row w ↦ rw w.folded-is (fold_no _ _ _ _ _ below c.loop-place.invariant (keeps_all c.args.query.now _ _ (sym c.has_row.ensures ∙ w.if-has_row.false)))
    ]

pub returns-clause-folded : goal.returns-clause-folded
returns-clause-folded c =
    let past : length c.args.self.now ≤ c.loop-place.place = rw (← c.self.view_is, length-rows_in) c.loop-place-test.false in
    fold_all _ _ _ _ _ past c.loop-place.invariant
