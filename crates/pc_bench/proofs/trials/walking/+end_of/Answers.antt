use Rattle.std.proofs.Common.{◌+◌, ◌∙◌, ap, subst, sym, arith}
use Rattle.std.proofs.lemmas.Result.{IfOk-weaker}
use Rattle.pc_model.specs.declared.tree.TreeNode.TheVariants.{Split}
use Rattle.pc_bench.specs.ShownWalks.{IsShown}
use Rattle.pc_bench.proofs.ShownWalks.{shown-bound, shown-void, shown-split}
use Rattle.pc_bench.proofs.trials.walking.+end_of.Goals as goal

pub returns-in-Bound : goal.returns-in-Bound
returns-in-Bound t c =
    IfOk-weaker c.ended.result _ _
    (λ end ended. subst (IsShown c.args.p.now c.args.floors.now c.args.caps.now c.args.nodes.now c.args.place) (sym ended.1)
    (shown-bound c.args.p.now c.args.floors.now c.args.caps.now c.args.nodes.now c.args.place c.index-nodes-place.result c.in-Bound.mult
    (omega arith) c.index-nodes-place.is c.in-Bound.is (c.is_multiplier.ensures ended.0)))
    c.ended.ensures

pub returns-in_ok-is_void-in-Void : goal.returns-in_ok-is_void-in-Void
returns-in_ok-is_void-in-Void t c =
    IfOk-weaker c.ended-in-Void.result _ _
    (λ end ended. subst (IsShown c.args.p.now c.args.floors.now c.args.caps.now c.args.nodes.now c.args.place) (sym ended.1)
    (shown-void c.args.p.now c.args.floors.now c.args.caps.now c.args.nodes.now c.args.place c.index-nodes-place.result c.in-Void.mult
    (omega arith) c.index-nodes-place.is c.in-Void.is (c.in_ok-is_void-in-Void.ensures ended.0)))
    c.ended-in-Void.ensures

pub returns-in_ok-more_floors-in-Split : goal.returns-in_ok-more_floors-in-Split
returns-in_ok-more_floors-in-Split t c =
    let sized = (c.is_box.ensures.0 c.if-not-is_box.false).sized_floors in
    let less_caps = c.as_slice.ensures.value ∙ c.in_ok-less_caps-in-Split.ensures in
    let more_floors = c.as_slice-in-Split.ensures.value ∙ c.in_ok-more_floors-in-Split.ensures in
    let less = subst (λ caps. IsShown c.args.p.now c.args.floors.now caps c.args.nodes.now (c.args.place + 1) c.in_ok-middle-in-Split.middle) less_caps c.in_ok-middle-in-Split.ensures in
    IfOk-weaker c.end_of-in-Split.result _ _
    (λ end more. shown-split c.args.p.now c.args.floors.now c.args.caps.now c.args.nodes.now c.args.place c.in_ok-middle-in-Split.middle end c.in-Split.cell c.in-Split.at
    c.index-nodes-place.result (omega arith) c.index-nodes-place.is
    (c.in-Split.is ∙ ap (λ k. Split c.in-Split.cell c.in-Split.at k c.in-Split.more) c.if-less-place.false ∙ ap (Split c.in-Split.cell c.in-Split.at (c.args.place + 1)) c.if-more-middle.false)
    (omega (arith, sized)) (omega arith) (omega arith) less
    (subst (λ floors. IsShown c.args.p.now floors c.args.caps.now c.args.nodes.now c.in_ok-middle-in-Split.middle end) more_floors more))
    c.end_of-in-Split.ensures
