use Rattle.std.proofs.Common.{◌≡◌, ◌++◌, drop}
use Rattle.pc_model.specs.declared.tree.TreeNode.{TreeNode}
use Rattle.pc_document_format.specs.Lines.{lines_text}
use Rattle.pc_document_format.specs.Formats.{nodes_text}
use Rattle.pc_document_lines.specs.NodeLines.{bare, node_text}
use Rattle.pc_document.proofs.put_proof.put_nodes.Given as goal

abbrev pub invariant-loop-node : goal.invariant-loop-node
invariant-loop-node l =
    l.out.items ++ lines_text (nodes_text (λ (node : TreeNode). node_text (bare node)) (drop l.node-index l.nodes)) ≡ l.fn.out.items ++ lines_text (nodes_text (λ (node : TreeNode). node_text (bare node)) l.nodes)
