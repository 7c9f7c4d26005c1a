use Rattle.pc_branch.proofs.tree.node_at.Goals as goal

pub returns-in-Some : goal.returns-in-Some
returns-in-Some c = rw c.in-Some.is (rw c.size_in.ensures at c.split_node.ensures)
