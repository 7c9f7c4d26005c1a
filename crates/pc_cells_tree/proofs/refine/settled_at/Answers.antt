use Rattle.std.proofs.Common.{◌≡◌, true, inr, arith}
use Rattle.std.proofs.lemmas.Result.{IfOk-weaker}
use Rattle.pc_cells_tree.specs.Linked.{is_leaf_node, node_at}
use Rattle.pc_cells_tree.proofs.Knowing.{known-cut}
use Rattle.pc_cells_tree.proofs.Passes.{leaf_read, settled_node, cut_needed, cut_known}
use Rattle.pc_cells_tree.proofs.refine.settled_at.Goals as goal

pub returns-in-Settled-clause-step : goal.returns-in-Settled-clause-step
returns-in-Settled-clause-step c =
    settled_node c.args.constraints.now c.args.chosen.now c.args.pass.boxed c.args.place c.index-as_slice-place.result _ c.as_slice-3.result.now c.requires.there c.requires.long
    c.index-as_slice-place.is c.as_slice-3.ensures c.decide.result c.in-Settled.field-0 c.decide.ensures c.in-Settled.is

pub returns-in-Divided-clause-step : goal.returns-in-Divided-clause-step
returns-in-Divided-clause-step c =
    let needed = cut_needed c.args.constraints.now c.args.chosen.now c.args.pass.boxed c.args.place c.index-as_slice-place.result _ c.as_slice-3.result.now c.requires.there c.requires.long
    c.index-as_slice-place.is c.as_slice-3.ensures c.decide.result c.in-Divided.at c.in-Divided.known c.decide.ensures c.in-Divided.is in
    let leaf : is_leaf_node (node_at c.args.pass.boxed.nodes c.args.place) ≡ true = leaf_read c.args.pass.boxed.nodes c.as_slice.result.now c.args.place _ c.is_leaf.result c.as_slice.ensures c.requires.there c.is_leaf.ensures c.if-not-is_leaf.false in
    IfOk-weaker c.with_cut.result _ _ (λ after is. inr (record { cut = c.in-Divided.at; leaf = leaf; needed = needed; nodes_are = is.0; boxes_are = is.1 })) c.with_cut.ensures

pub returns-in-Divided-clause-known : goal.returns-in-Divided-clause-known
returns-in-Divided-clause-known c =
    let needed = cut_needed c.args.constraints.now c.args.chosen.now c.args.pass.boxed c.args.place c.index-as_slice-place.result _ c.as_slice-3.result.now c.requires.there c.requires.long
    c.index-as_slice-place.is c.as_slice-3.ensures c.decide.result c.in-Divided.at c.in-Divided.known c.decide.ensures c.in-Divided.is in
    let known = cut_known c.args.constraints.now c.args.chosen.now c.args.pass.boxed c.args.place c.index-as_slice-place.result _ c.as_slice-3.result.now c.requires.there c.requires.long
    c.index-as_slice-place.is c.as_slice-3.ensures c.decide.result c.in-Divided.at c.in-Divided.known c.decide.ensures c.in-Divided.is in
    IfOk-weaker c.with_cut.result _ _
    (λ after is. rw (is.1, is.2) (known-cut c.args.constraints.now c.args.pass.boxed.boxes c.args.pass.known c.args.place c.in-Divided.at c.in-Divided.known (omega (arith, c.requires.there, c.requires.long)) needed.divides c.requires.known known))
    c.with_cut.ensures
