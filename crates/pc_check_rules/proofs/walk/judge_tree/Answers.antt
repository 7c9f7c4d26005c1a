use Rattle.std.proofs.Common.{refl, subst}
use Rattle.pc_check_rules.specs.Walk.{IsStep}
use Rattle.pc_check_rules.proofs.Walking.{walking-start, walking-here, walking-box, walking-on, walking-broken, walking-end}
use Rattle.pc_check_rules.proofs.walk.judge_tree.Goals as goal

pub loop-place-init : goal.loop-place-init
loop-place-init c =
    walking-start c.args.program.now c.args.nodes.now c.args.line c.in_ok-walk.walk c.requires.program c.requires.preorder c.in_ok-walk.ensures

pub step-requires-clause-corner : goal.step-requires-clause-corner
step-requires-clause-corner c =
    walking-box c.args.program.now c.args.nodes.now c.args.line c.loop-place.place c.loop-place.walk c.index-nodes-place.result
    (walking-here c.args.program.now c.args.nodes.now c.args.line c.loop-place.place c.loop-place.walk c.index-nodes-place.result
    c.loop-place-test.true c.index-nodes-place.is c.loop-place.invariant)

pub step-requires-clause-stands : goal.step-requires-clause-stands
step-requires-clause-stands c = c.loop-place.invariant.stands

pub returns-in_default : goal.returns-in_default
returns-in_default c =
    let broken = subst (IsStep c.args.program.now c.loop-place.walk c.index-nodes-place.result) c.in_default.is c.in_ok-further.ensures in
    walking-broken c.args.program.now c.args.nodes.now c.args.line c.loop-place.place c.loop-place.walk c.index-nodes-place.result _ _
    (walking-here c.args.program.now c.args.nodes.now c.args.line c.loop-place.place c.loop-place.walk c.index-nodes-place.result
    c.loop-place-test.true c.index-nodes-place.is c.loop-place.invariant)
    broken refl c.rule_number.ensures

pub loop-place-preserved : goal.loop-place-preserved
loop-place-preserved c =
    let passed = subst (IsStep c.args.program.now c.loop-place.walk c.index-nodes-place.result) c.in-Some.is c.in_ok-further.ensures in
    walking-on c.args.program.now c.args.nodes.now c.args.line c.loop-place.place c.loop-place.walk c.in-Some.further c.index-nodes-place.result
    (walking-here c.args.program.now c.args.nodes.now c.args.line c.loop-place.place c.loop-place.walk c.index-nodes-place.result
    c.loop-place-test.true c.index-nodes-place.is c.loop-place.invariant)
    passed

pub returns : goal.returns
returns c = walking-end c.args.program.now c.args.nodes.now c.args.line c.loop-place.place c.loop-place.walk c.loop-place-test.false c.loop-place.invariant
