use Rattle.std.proofs.Common.{◌≡◌, [], ◌∷◌, ◌++◌, arith, rules, ◌∙◌}
use Rattle.pc_desk_weigh.proofs.Places.{changed_all, changed_more, changed_none}
use Rattle.pc_desk_weigh.proofs.changes.changed.Goals as goal

pub loop-place-init : goal.loop-place-init
loop-place-init c = c.new-all.ensures ∙ changed_none c.args.schema.now c.args.constraints.now 0 c.args.change

pub loop-place-preserved : goal.loop-place-preserved
loop-place-preserved c =
    let at = c.loop-place in
    let pushed : c.push.new.self ≡ at.all ++ c.in_ok-new.new ∷ [] = search rules in
    changed_more c.args.schema.now c.args.constraints.now at.place c.args.change c.index-constraints-place.result c.loop-place-test.true c.index-constraints-place.is at.all c.push.new.self c.in_ok-new.new at.invariant c.in_ok-new.ensures pushed

pub returns : goal.returns
returns c =
    let at = c.loop-place in
    changed_all c.args.schema.now c.args.constraints.now at.place c.args.change (omega (arith, c.loop-place-test.false)) at.all at.invariant
