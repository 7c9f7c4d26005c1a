use Rattle.std.proofs.Common.{rules, ◌≡◌, ℕ, List, ◌+◌, ◌∷◌, ◌++◌, [], drop, sym, ap, ◌∙◌}
use Rattle.pc_model.specs.declared.tree.TreeNode.{TreeNode}
use Rattle.pc_document_format.specs.Lines.{lines_text}
use Rattle.pc_document_format.specs.Formats.{nodes_text}
use Rattle.pc_document_lines.specs.NodeLines.{bare, node_text}
use Rattle.pc_document.proofs.Writing.{tree_more, tree_end}
use Rattle.pc_document.proofs.put_proof.put_nodes.Goals as goal

pub loop-node-preserved : goal.loop-node-preserved
loop-node-preserved c =
    let pushed : c.push.new.self.items ≡ (c.loop-node.out.items ++ node_text (bare c.node-item.result)) ++ 10 ∷ [] = search rules in
    ap (λ (items : List ℕ). items ++ lines_text (nodes_text (λ (node : TreeNode). node_text (bare node)) (drop (c.loop-node.node-index + 1) c.args.nodes.now))) pushed
    ∙ tree_more c.loop-node.out.items c.args.nodes.now c.loop-node.node-index c.node-item.result c.loop-node-test.true c.node-item.is ∙ c.loop-node.invariant

pub returns : goal.returns
returns c = sym (tree_end c.loop-node.out.items c.args.nodes.now c.loop-node.node-index (search rules)) ∙ c.loop-node.invariant
