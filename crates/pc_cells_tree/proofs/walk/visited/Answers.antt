use Rattle.std.proofs.lemmas.Result.{IfOk-weaker}
use Rattle.pc_model.specs.declared.tree.CutNode.TheVariants.{Leaf, Inner}
use Rattle.pc_cells_tree.proofs.Walked.{node_read, visit_divided, leaf-settled, leaf-step, opened-step}
use Rattle.pc_cells_tree.proofs.walk.visited.Goals as goal

pub mark_of-mark-requires-clause-comparable : goal.mark_of-mark-requires-clause-comparable
mark_of-mark-requires-clause-comparable c = c.requires.visit.comparable

pub mark_of-mark-requires-clause-settled : goal.mark_of-mark-requires-clause-settled
mark_of-mark-requires-clause-settled c =
    let is_leaf = node_read c.args.nodes.now c.args.constraints.now c.args.chosen.now c.args.turn.number _ (Leaf c.in-Leaf.mark) c.requires.visit.there c.in-Leaf.is in
    leaf-settled c.args.nodes.now c.args.constraints.now c.args.chosen.now c.args.turn.number c.args.turn.part c.in-Leaf.mark c.requires.visit is_leaf

pub opened-requires-clause-filled : goal.opened-requires-clause-filled
opened-requires-clause-filled c = c.requires.visit.comparable.filled

pub opened-requires-clause-divided : goal.opened-requires-clause-divided
opened-requires-clause-divided c =
    let is_inner = node_read c.args.nodes.now c.args.constraints.now c.args.chosen.now c.args.turn.number _ (Inner c.in-Inner.cut c.in-Inner.first c.in-Inner.second) c.requires.visit.there c.in-Inner.is in
    visit_divided c.args.nodes.now c.args.constraints.now c.args.chosen.now c.args.turn.number c.args.turn.part c.in-Inner.cut c.in-Inner.first c.in-Inner.second c.requires.visit is_inner

pub returns-in_ok-growth-in-Leaf : goal.returns-in_ok-growth-in-Leaf
returns-in_ok-growth-in-Leaf c =
    let is_leaf = node_read c.args.nodes.now c.args.constraints.now c.args.chosen.now c.args.turn.number _ (Leaf c.in-Leaf.mark) c.requires.visit.there c.in-Leaf.is in
    leaf-step c.args.nodes.now c.args.constraints.now c.args.chosen.now c.args.walk c.args.turn.number c.args.turn.part c.args.turn.known c.in-Leaf.mark c.mark_of-mark.result c.in_ok-growth-in-Leaf.growth is_leaf c.mark_of-mark.ensures c.in_ok-growth-in-Leaf.ensures

pub returns-in-Inner : goal.returns-in-Inner
returns-in-Inner c =
    let is_inner = node_read c.args.nodes.now c.args.constraints.now c.args.chosen.now c.args.turn.number _ (Inner c.in-Inner.cut c.in-Inner.first c.in-Inner.second) c.requires.visit.there c.in-Inner.is in
    IfOk-weaker c.opened.result _ _
    (opened-step c.args.nodes.now c.args.constraints.now c.args.chosen.now c.args.turn.number c.args.turn.part c.in-Inner.cut c.in-Inner.first c.in-Inner.second c.requires.visit is_inner c.args.turn.known c.learn-known.result c.learn-known.ensures c.args.walk) c.opened.ensures
