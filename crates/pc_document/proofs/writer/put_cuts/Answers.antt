use Rattle.std.proofs.Common.{rules, ◌≡◌, ℕ, List, ◌+◌, ◌∷◌, ◌++◌, [], drop, get_or, pos, sym, ap, ◌∙◌}
use Rattle.std.proofs.lemmas.List.{get_or_default}
use Rattle.pc_model.specs.declared.tree.CutNode.{CutNode}
use Rattle.pc_model.specs.declared.tree.Cut.TheVariants.{At}
use Rattle.pc_model.specs.declared.tree.CutNode.TheVariants as cut_nodes
use Rattle.pc_document_format.specs.Lines.{lines_text}
use Rattle.pc_document_format.specs.Formats.{nodes_text}
use Rattle.pc_document_lines.specs.TokenLines.{bare_cut, cut_node_text}
use Rattle.pc_document.proofs.Writing.{nodes_more, nodes_end}
use Rattle.pc_document.proofs.writer.put_cuts.Goals as goal

pub loop-node-preserved : goal.loop-node-preserved
loop-node-preserved c =
    let node : CutNode = get_or c.args.nodes.now c.loop-node.node-index (cut_nodes.Inner (At 0 (pos 0)) 0 0) in
    let same : node ≡ get_or c.args.nodes.now c.loop-node.node-index node = get_or_default c.args.nodes.now c.loop-node.node-index (cut_nodes.Inner (At 0 (pos 0)) 0 0) node c.loop-node-test.true in
    let pushed : c.push.new.self.items ≡ (c.loop-node.out.items ++ cut_node_text c.args.schema.now (bare_cut node)) ++ 10 ∷ [] = search rules in
    ap (λ (items : List ℕ). items ++ lines_text (nodes_text (λ (node : CutNode). cut_node_text c.args.schema.now (bare_cut node)) (drop (c.loop-node.node-index + 1) c.args.nodes.now))) pushed
    ∙ nodes_more (λ (node : CutNode). cut_node_text c.args.schema.now (bare_cut node)) c.loop-node.out.items c.args.nodes.now c.loop-node.node-index node c.loop-node-test.true same ∙ c.loop-node.invariant

pub returns : goal.returns
returns c = sym (nodes_end (λ (node : CutNode). cut_node_text c.args.schema.now (bare_cut node)) c.loop-node.out.items c.args.nodes.now c.loop-node.node-index (search rules)) ∙ c.loop-node.invariant
