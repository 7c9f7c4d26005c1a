use Rattle.std.proofs.Common.{arith, ◌∙◌}
use Rattle.pc_desk_weigh.proofs.Places.{changes_all, changes_more, changes_none}
use Rattle.pc_desk_weigh.proofs.changes.changes_of.Goals as goal

pub loop-place-init : goal.loop-place-init
loop-place-init c = c.new-changes.ensures ∙ changes_none c.args.schema.now c.args.constraints.now 0 c.args.asked

pub loop-place-preserved : goal.loop-place-preserved
loop-place-preserved c =
    let at = c.loop-place in
    changes_more c.args.schema.now c.args.constraints.now at.place c.args.asked c.index-constraints-place.result c.loop-place-test.true c.index-constraints-place.is at.changes c.in_ok-changes.changes at.invariant c.in_ok-changes.ensures

pub returns : goal.returns
returns c =
    let at = c.loop-place in
    changes_all c.args.schema.now c.args.constraints.now at.place c.args.asked (omega (arith, c.loop-place-test.false)) at.changes at.invariant
