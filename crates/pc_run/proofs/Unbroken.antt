-- The blocks that answer a case break no rule as a document.
use Rattle.std.proofs.Common.{ℕ, List, [], ◌∷◌, Option, Some, None, IsSome, refl, sym, subst}
use Rattle.std.specs.List.{AllZip}
use Rattle.std.proofs.lemmas.Bool.{false≢true}
use Rattle.pc_model.specs.declared.query.Query.{Query}
use Rattle.pc_model.specs.declared.tree.CutNode.{CutNode}
use Rattle.pc_rows.specs.declared.case.Case.{Case}
use Rattle.pc_proof.specs.declared.document.Block.{Block}
use Rattle.pc_proof.specs.declared.document.BlockTree.{BlockTree}
use Rattle.pc_proof.specs.declared.document.BlockTree.TheVariants as trees
use Rattle.pc_proof.specs.declared.document.Document.{Document}
use Rattle.pc_proof.specs.Documents.{Premises, AreUnbroken, nodes_after, premises_of, setting_of, unbroken_with}
use Rattle.pc_proof.specs.Form.{IsInForm}
use Rattle.pc_proof.specs.Unbroken.{IsUnbroken}
use Rattle.pc_group.specs.Answers.{AnswersWanted, setting_for}
use Rattle.pc_group.specs.Trees.{AreWritten, AreWrittenAfter, IsWrittenAfter, Told, told, told_after, told_with}
use Rattle.pc_group.specs.Wanted.{Wanted, wanted}
use Rattle.pc_run.specs.Answers.{AnswersCase}

-- a block whose tree is written has one
has_nodes : (before : Option (List CutNode)) (tree : BlockTree) → IsWrittenAfter before tree → IsSome (nodes_after before tree)
has_nodes before trees.Same written = written
has_nodes before (trees.Own tree) written = refl

module _ (budget : ℕ) (case : Case) where
  abbrev Answers : Wanted → Told → Type 0
  Answers = AnswersWanted budget case.schema case.rows case.constraints

  abbrev premises : Premises
  premises = premises_of case.schema case.rows case.constraints

  block_unbroken : (block : Block) (nodes : List CutNode) (w : Wanted) → Answers w (record { block = block; nodes = nodes }) → IsUnbroken (setting_of premises block nodes) block.answer
  block_unbroken block nodes w answered =
      let named = subst (λ (name : Option ℕ). IsUnbroken (setting_for case.schema case.rows case.constraints (record { query = w.query; name = name }) nodes) block.answer) (sym answered.name_is) answered.unbroken in
      subst (λ (query : Query). IsUnbroken (setting_for case.schema case.rows case.constraints (record { query = query; name = block.name }) nodes) block.answer) (sym answered.query_is) named

  -- a block and those after it, with the nodes that it says
  next_unbroken : (block : Block) (blocks : List Block) (nodes : Option (List CutNode)) (ws : List Wanted) → IsSome nodes →
      ((more : List Wanted) → AllZip Answers more (told_after blocks nodes) → AreUnbroken premises nodes blocks) → AllZip Answers ws (told_with block nodes (told_after blocks)) →
      unbroken_with nodes (λ own. IsUnbroken (setting_of premises block own) block.answer × AreUnbroken premises (Some own) blocks)
  next_unbroken block blocks None ws has later pairs = absurd (false≢true has)
  next_unbroken block blocks (Some nodes) [] has later pairs = absurd pairs
  next_unbroken block blocks (Some nodes) (w ∷ ws) has later pairs = (block_unbroken block nodes w pairs.0, later ws pairs.1)

  unbroken_after : (blocks : List Block) (before : Option (List CutNode)) (ws : List Wanted) → AllZip Answers ws (told_after blocks before) → AreWrittenAfter blocks before → AreUnbroken premises before blocks
  unfolding told_after AreWrittenAfter
  unbroken_after [] before ws pairs written = tt
  unbroken_after (block ∷ blocks) before ws pairs written =
      next_unbroken block blocks (nodes_after before block.tree) ws (has_nodes before block.tree written.0)
      (λ more tail. unbroken_after blocks (nodes_after before block.tree) more tail written.1) pairs

  pub answers_case : (document : Document) → AllZip Answers (wanted case.schema case.queries) (told document.blocks) → AreWritten document.blocks → IsInForm case.schema document → AnswersCase budget case document
  answers_case document answers written formed = record {
    answers = answers;
    written = written;
    formed = formed;
    unbroken = unbroken_after document.blocks None (wanted case.schema case.queries) answers written;
  }
