use Rattle.pc_program_bound.proofs.WalkLeft.{walking-start, walking-here, walking-at, walking-on}
use Rattle.pc_program_bound.proofs.walk.tree_bound.Goals as goal

pub loop-node-init : goal.loop-node-init
loop-node-init c =
    rw c.as_slice-nodes.ensures
    (walking-start c.args.p.now c.args.tree.now.nodes c.in_ok-walk.walk c.requires.program c.requires.preorder c.requires.proves c.requires.fits c.in_ok-walk.ensures)

pub pass-requires-clause-at : goal.pass-requires-clause-at
pass-requires-clause-at c =
    walking-at c.args.p.now _ c.loop-node.walk c.node-item.result _
    (walking-here c.args.p.now _ c.loop-node.walk c.as_slice-nodes.result.now c.loop-node.node-index c.node-item.result c.loop-node-test.true c.node-item.is c.loop-node.invariant)

pub loop-node-preserved : goal.loop-node-preserved
loop-node-preserved c =
    walking-on c.args.p.now _ c.loop-node.walk c.in_ok-walk-2.walk c.node-item.result _
    (walking-here c.args.p.now _ c.loop-node.walk c.as_slice-nodes.result.now c.loop-node.node-index c.node-item.result c.loop-node-test.true c.node-item.is c.loop-node.invariant)
    c.in_ok-walk-2.ensures
