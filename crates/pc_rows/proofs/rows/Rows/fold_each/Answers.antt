use Rattle.std.proofs.Common.{◌<◌, length, subst, arith}
use Rattle.pc_rows.specs.Groups.{IsGroupOf}
use Rattle.pc_rows.specs.Stored.{row_at}
use Rattle.pc_rows.proofs.Grouping.{folds_stay, folds_more, folds_all}
use Rattle.pc_rows.proofs.rows.Rows.fold_each.Goals as goal
use Rattle.pc_rows.proofs.rows.Rows.fold_each.Goals.{in-Some, in_default}

pub loop-place-preserved : goal.loop-place-preserved
loop-place-preserved c =
    let below : c.loop-place.place < length c.args.self.now = omega (arith, c.loop-place-test.true, c.count-place-end.ensures.counted) in
    let found : IsGroupOf c.args.query.now c.args.names.now (row_at c.args.self.now c.loop-place.place) c.group_of.result =
    c.group_of.ensures c.args.names.now c.requires.grouped c.requires.places c.requires.once (rw c.as_slice.ensures.value c.in_ok-slots.ensures) in
    elim c.match-group_of.branch [
      | in-Some w ↦ rw w.folds-is (folds_more c.args.query.now c.args.names.now c.args.self.now c.loop-place.place c.loop-place.folds.items below c.loop-place.invariant w.in-Some.index w.with_row.result (subst (IsGroupOf c.args.query.now c.args.names.now (row_at c.args.self.now c.loop-place.place)) w.in-Some.is found) w.index.result.now w.index.ensures w.with_row.ensures.more w.with_row.ensures.small)
      | in_default w ↦ rw w.folds-is (folds_stay c.args.query.now c.args.names.now c.args.self.now c.loop-place.place c.loop-place.folds.items below c.loop-place.invariant c.group_of.result found w.in_default.not-Some)
    ]

pub returns-clause-folds : goal.returns-clause-folds
returns-clause-folds c = rw c.from_vec.ensures (folds_all c.args.query.now c.args.names.now c.args.self.now c.loop-place.place c.loop-place.folds.items (omega (arith, c.loop-place-test.false, c.count-place-end.ensures.counted)) c.loop-place.invariant)
