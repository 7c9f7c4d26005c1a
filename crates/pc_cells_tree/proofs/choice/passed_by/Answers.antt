use Rattle.std.proofs.Common.{sym, ◌∙◌, arith}
use Rattle.pc_cells_tree.proofs.Chosen.{none_yet, passed_one, passed_known, passed_beside, passed_most}
use Rattle.pc_cells_tree.proofs.choice.passed_by.Goals as goal
use Rattle.pc_cells_tree.proofs.choice.passed_by.Goals.{then-is_open+then-passes, else-is_open, else-is_open-via-then-is_open+else-passes, else-is_open-via-else-is_open}

pub loop-place-init : goal.loop-place-init
loop-place-init c = record { few = omega arith; count = none_yet c.args.part.now c.args.constraints.now c.args.known c.args.cut.now }

pub returns-then-most-passed : goal.returns-then-most-passed
returns-then-most-passed c =
    passed_most c.args.part.now c.args.constraints.now c.args.known c.args.cut.now c.args.most c.loop-place.passed c.loop-place.place c.loop-place.invariant.count c.loop-place.invariant.few
    c.if-most-passed.true c.loop-place.auto.place-end

pub loop-place-preserved : goal.loop-place-preserved
loop-place-preserved c =
    let less = c.if-most-passed.false in
    let item = c.index-constraints-place in
    elim c.if-is_open.branch [
      | then-is_open+then-passes w ↦ record {
        few = rw w.passed-is (omega (arith, less));
        count = rw w.passed-is
            (passed_one c.args.part.now c.args.constraints.now c.args.known c.args.cut.now c.loop-place.place c.loop-place.passed item.result c.loop-place-test.true item.is c.loop-place.invariant.count
            (sym c.is_open.ensures ∙ w.if-is_open.true) (sym w.passes.ensures ∙ w.if-passes.true));
      }
      | else-is_open w ↦ record {
        few = rw w.passed-is c.loop-place.invariant.few;
        count = rw w.passed-is
            (elim w.else-is_open.branch [
              | else-is_open-via-then-is_open+else-passes u ↦
                  passed_beside c.args.part.now c.args.constraints.now c.args.known c.args.cut.now c.loop-place.place c.loop-place.passed item.result c.loop-place-test.true item.is c.loop-place.invariant.count
                  (sym c.is_open.ensures ∙ u.if-is_open.true) (sym u.passes.ensures ∙ u.if-passes.false)
              | else-is_open-via-else-is_open u ↦
                  passed_known c.args.part.now c.args.constraints.now c.args.known c.args.cut.now c.loop-place.place c.loop-place.passed item.result c.loop-place-test.true item.is c.loop-place.invariant.count
                  (sym c.is_open.ensures ∙ u.if-is_open.false)
            ]);
      }
    ]
