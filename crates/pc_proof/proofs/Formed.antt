-- Answers in form have the parts that the law of right answers asks for.
use Rattle.std.proofs.Common.{◌≡◌, pos, List, [], ◌∷◌, All, Option, Some, None, arith}
use Rattle.std.proofs.lemmas.Int.{ints}
use Rattle.std.specs.Prelude.{IfSome, is_none}
use Rattle.std.proofs.lemmas.List.Elements.{All-head, All-tail}
use Rattle.pc_num.specs.declared.Frac.{Frac}
use Rattle.pc_model.specs.declared.query.Agg.{Agg}
use Rattle.pc_model.specs.declared.query.Agg.TheVariants as aggs
use Rattle.pc_model.specs.declared.schema.Schema.{Schema}
use Rattle.pc_model.specs.declared.tree.CutNode.{CutNode}
use Rattle.pc_model.specs.CutTrees.{IsInPreorder}
use Rattle.pc_proof.specs.declared.answer.Proof.{Proof}
use Rattle.pc_proof.specs.declared.answer.Proof.TheVariants as proofs
use Rattle.pc_proof.specs.declared.answer.End.{End}
use Rattle.pc_proof.specs.declared.answer.Answer.{Answer}
use Rattle.pc_proof.specs.declared.document.Block.{Block}
use Rattle.pc_proof.specs.declared.document.BlockTree.{BlockTree}
use Rattle.pc_proof.specs.declared.document.BlockTree.TheVariants as trees
use Rattle.pc_proof.specs.Setting.{Setting}
use Rattle.pc_proof.specs.Table.{IsFormed, IsPositive, HasRatio}
use Rattle.pc_proof.specs.Unbroken.{HasForm}
use Rattle.pc_proof.specs.Documents.{Premises, nodes_after, setting_of, formed_with, HaveForm}
use Rattle.pc_proof.specs.Form.{IsFormedWhole, IsFormedValue, IsFormedProof, IsFormedEnd, AreFormedEnds, IsFormedAnswer, IsFormedBlockTree, IsFormedBlock}

whole-positive : (v : Frac) → IsFormedWhole v → IsPositive v
whole-positive v f = let one : v.den ≡ pos 1 = f.one in omega (arith, ints)

value-positive : (agg : Agg) (v : Frac) → IsFormedValue agg v → IsPositive v
value-positive aggs.Count v f = whole-positive v f
value-positive aggs.Sum v f = whole-positive v f
value-positive aggs.Min v f = whole-positive v f
value-positive aggs.Max v f = whole-positive v f
value-positive aggs.Avg v f = f.reduced.above

ratio-positive : (proof : Proof) → IsFormedProof proof → HasRatio proof
ratio-positive proofs.Rows f = tt
ratio-positive (proofs.Tree t) f = tt
ratio-positive (proofs.At r t) f = f.0.reduced.above
ratio-positive proofs.Values f = tt

end-formed : (schema : Schema) (agg : Agg) (end : End) → IsFormedEnd schema agg end → IsFormed end.value end.proof
end-formed schema agg end f = record { positive = value-positive agg end.value f.value; ratio = ratio-positive end.proof f.proof }

low-formed : (schema : Schema) (agg : Agg) (ends : Option (End × End)) → AreFormedEnds schema agg ends → IfSome ends (λ e. IsFormed e.0.value e.0.proof)
low-formed schema agg None f = tt
low-formed schema agg (Some e) f = end-formed schema agg e.0 f.0

high-formed : (schema : Schema) (agg : Agg) (ends : Option (End × End)) → AreFormedEnds schema agg ends → IfSome ends (λ e. IsFormed e.1.value e.1.proof)
high-formed schema agg None f = tt
high-formed schema agg (Some e) f = end-formed schema agg e.1 f.1

-- an answer in form, of a name where the query is grouped, over a tree whose nodes are in order
pub form_of_answer : (schema : Schema) (s : Setting) (answer : Answer) → is_none s.question.name ≡ is_none s.question.query.group → IsInPreorder s.nodes
    → IsFormedAnswer schema s.question.query.agg answer → HasForm s answer
form_of_answer schema s answer named preorder f = record {
  named = named;
  preorder = preorder;
  silent = f.silent;
  absent = f.absent;
  low = low-formed schema s.question.query.agg answer.ends f.ends;
  high = high-formed schema s.question.query.agg answer.ends f.ends;
}

-- ---- documents

tree-ordered : (schema : Schema) (before : Option (List CutNode)) (tree : BlockTree) → IfSome before IsInPreorder → IsFormedBlockTree schema tree
    → IfSome (nodes_after before tree) IsInPreorder
tree-ordered schema before (trees.Own t) ordered f = f.preorder
tree-ordered schema before trees.Same ordered f = ordered

formed-block : (case : Premises) (block : Block) (nodes : Option (List CutNode)) (Later : List CutNode → Type 0) → IfSome nodes IsInPreorder
    → IsFormedBlock case.schema block → ((found : List CutNode) → IsInPreorder found → Later found)
    → formed_with nodes (λ found. HasForm (setting_of case block found) block.answer × Later found)
formed-block case block None Later ordered f later = tt
formed-block case block (Some nodes) Later ordered f later =
    (form_of_answer case.schema (setting_of case block nodes) block.answer f.named ordered f.answer, later nodes ordered)

-- a document in form has the form that its blocks are judged in
pub form_of_document : (case : Premises) (before : Option (List CutNode)) (blocks : List Block) → IfSome before IsInPreorder
    → All (IsFormedBlock case.schema) blocks → HaveForm case before blocks
form_of_document case before [] ordered f = tt
form_of_document case before (block ∷ blocks) ordered f =
    formed-block case block (nodes_after before block.tree) (λ found. HaveForm case (Some found) blocks) (tree-ordered case.schema before block.tree ordered (All-head (IsFormedBlock case.schema) block blocks f).tree)
    (All-head (IsFormedBlock case.schema) block blocks f) (λ found in-order. form_of_document case (Some found) blocks in-order (All-tail (IsFormedBlock case.schema) block blocks f))
