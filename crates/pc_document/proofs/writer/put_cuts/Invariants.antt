use Rattle.std.proofs.Common.{◌≡◌, ◌++◌, drop}
use Rattle.pc_model.specs.declared.tree.CutNode.{CutNode}
use Rattle.pc_document_format.specs.Lines.{lines_text}
use Rattle.pc_document_format.specs.Formats.{nodes_text}
use Rattle.pc_document_lines.specs.TokenLines.{bare_cut, cut_node_text}
use Rattle.pc_document.proofs.writer.put_cuts.Given as goal

abbrev pub invariant-loop-node : goal.invariant-loop-node
invariant-loop-node l =
    l.out.items ++ lines_text (nodes_text (λ (node : CutNode). cut_node_text l.fn.schema (bare_cut node)) (drop l.node-index l.nodes))
    ≡ l.fn.out.items ++ lines_text (nodes_text (λ (node : CutNode). cut_node_text l.fn.schema (bare_cut node)) l.nodes)
