use Rattle.pc_bench.proofs.ShownWalks.{shown-whole}
use Rattle.pc_bench.proofs.trials.walking.check.Goals as goal

pub returns-clause-preorder : goal.returns-clause-preorder
returns-clause-preorder c =
    let shown = rw (c.as_slice-nodes.ensures, c.as_slice.ensures, c.as_slice-2.ensures) at c.in_ok-end.ensures in
    (shown-whole c.args.p.now c.args.p.now.floor c.args.p.now.cap c.args.tree.now.nodes c.in_ok-end.end shown (rw c.as_slice-nodes.ensures at c.if-end-nodes.false)).0

pub returns-clause-proves : goal.returns-clause-proves
returns-clause-proves c =
    let shown = rw (c.as_slice-nodes.ensures, c.as_slice.ensures, c.as_slice-2.ensures) at c.in_ok-end.ensures in
    (shown-whole c.args.p.now c.args.p.now.floor c.args.p.now.cap c.args.tree.now.nodes c.in_ok-end.end shown (rw c.as_slice-nodes.ensures at c.if-end-nodes.false)).1
