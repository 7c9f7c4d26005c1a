use Rattle.std.proofs.Common.{◌≡◌, ℕ, ◌<◌, pos, List, [], length, get_or, refl, sym, ◌∙◌, subst}
use Rattle.std.proofs.lemmas.List.{nil_from_length, get_or_default}
use Rattle.pc_model.specs.declared.tree.Cut.TheVariants.{At}
use Rattle.pc_model.specs.declared.tree.CutNode.{CutNode}
use Rattle.pc_model.specs.declared.tree.CutNode.TheVariants.{Inner}
use Rattle.pc_check_rules.specs.declared.cuts.CutWalk.{CutWalk}
use Rattle.pc_check_rules.specs.Cuts.{IsCutStep}
use Rattle.pc_check_rules.proofs.CutWalking.{walking-start, walking-here, walking-box, walking-open, walking-on, walking-broken, walking-end}
use Rattle.pc_check_rules.proofs.cuts.judge_cuts.Goals as goal

-- the node that the loop reads at a place
abbrev read_node : List CutNode → ℕ → CutNode
read_node list place = get_or list place (Inner (At 0 (pos 0)) 0 0)

is_node : (list : List CutNode) (place : ℕ) → place < length list → read_node list place ≡ get_or list place (read_node list place)
is_node list place there = get_or_default list place (Inner (At 0 (pos 0)) 0 0) (read_node list place) there

pub loop-place-init : goal.loop-place-init
loop-place-init c =
    walking-start c.args.schema.now c.args.constraints.now c.args.area.now c.args.nodes.now c.args.line c.in_ok-walk.walk c.requires.well_formed c.requires.servable c.requires.area c.requires.preorder c.in_ok-walk.ensures.parts c.in_ok-walk.ensures.leaves

pub unreachable-requires : goal.unreachable-requires
unreachable-requires c =
    let walk = c.loop-place.walk in
    let none : walk.parts.items ≡ [] = nil_from_length walk.parts.items (sym walk.parts.ok.0 ∙ c.in_default.ensures.cases.0) in
    walking-open c.args.schema.now c.args.constraints.now c.args.area.now c.args.nodes.now c.args.line c.loop-place.place walk.parts.items walk.leaves c.loop-place-test.true none c.loop-place.invariant

pub step-requires-clause-comparable : goal.step-requires-clause-comparable
step-requires-clause-comparable c =
    let left : CutWalk = record { parts = c.pop.new.self; leaves = c.loop-place.walk.leaves } in
    walking-box c.args.schema.now c.args.constraints.now c.args.area.now c.args.nodes.now c.args.line c.loop-place.place left c.in-Some.part (read_node c.args.nodes.now c.loop-place.place)
    (walking-here c.args.schema.now c.args.constraints.now c.args.area.now c.args.nodes.now c.args.line c.loop-place.place c.loop-place.walk.parts.items left c.in-Some.part (read_node c.args.nodes.now c.loop-place.place)
    c.loop-place-test.true (is_node c.args.nodes.now c.loop-place.place c.loop-place-test.true) c.in-Some.ensures.items c.loop-place.invariant)

pub returns-in_default-2 : goal.returns-in_default-2
returns-in_default-2 c =
    let left : CutWalk = record { parts = c.pop.new.self; leaves = c.loop-place.walk.leaves } in
    let broken = subst (IsCutStep c.args.constraints.now c.args.area.now c.in-Some.part (read_node c.args.nodes.now c.loop-place.place) left) c.in_default-2.is c.in_ok-further.ensures in
    walking-broken c.args.schema.now c.args.constraints.now c.args.area.now c.args.nodes.now c.args.line c.loop-place.place left c.in-Some.part (read_node c.args.nodes.now c.loop-place.place) _ _
    (walking-here c.args.schema.now c.args.constraints.now c.args.area.now c.args.nodes.now c.args.line c.loop-place.place c.loop-place.walk.parts.items left c.in-Some.part (read_node c.args.nodes.now c.loop-place.place)
    c.loop-place-test.true (is_node c.args.nodes.now c.loop-place.place c.loop-place-test.true) c.in-Some.ensures.items c.loop-place.invariant)
    broken refl c.rule_of.ensures

pub loop-place-preserved : goal.loop-place-preserved
loop-place-preserved c =
    let left : CutWalk = record { parts = c.pop.new.self; leaves = c.loop-place.walk.leaves } in
    let passed = subst (IsCutStep c.args.constraints.now c.args.area.now c.in-Some.part (read_node c.args.nodes.now c.loop-place.place) left) c.in-Some-2.is c.in_ok-further.ensures in
    walking-on c.args.schema.now c.args.constraints.now c.args.area.now c.args.nodes.now c.args.line c.loop-place.place left c.in-Some-2.further c.in-Some.part (read_node c.args.nodes.now c.loop-place.place)
    (walking-here c.args.schema.now c.args.constraints.now c.args.area.now c.args.nodes.now c.args.line c.loop-place.place c.loop-place.walk.parts.items left c.in-Some.part (read_node c.args.nodes.now c.loop-place.place)
    c.loop-place-test.true (is_node c.args.nodes.now c.loop-place.place c.loop-place-test.true) c.in-Some.ensures.items c.loop-place.invariant)
    passed.0 passed.1

pub returns : goal.returns
returns c = walking-end c.args.schema.now c.args.constraints.now c.args.area.now c.args.nodes.now c.args.line c.loop-place.place c.loop-place.walk.parts.items c.loop-place.walk.leaves c.loop-place-test.false c.loop-place.invariant
