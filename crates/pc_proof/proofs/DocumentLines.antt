-- A document has at most one first broken demand, none where it breaks no rule, and is then right.
use Rattle.std.proofs.Common.{◌≡◌, ℕ, List, [], ◌∷◌, All, Option, Some, None, inl, inr}
use Rattle.std.proofs.lemmas.List.Elements.{All-nil, All-cons, All-head, All-tail}
use Rattle.pc_model.specs.declared.tree.CutNode.{CutNode}
use Rattle.pc_model.specs.Right.{IsRight}
use Rattle.pc_proof.specs.declared.document.Block.{Block}
use Rattle.pc_proof.specs.Unbroken.{IsUnbroken, HasForm, IsWellPosed, plain_answer}
use Rattle.pc_proof.specs.Demands.{block_demands, treeless_demands}
use Rattle.pc_proof.specs.Documents.{Premises, nodes_after, lines_of, setting_of, unbroken_with, AreUnbroken, formed_with, HaveForm, broken_with, IsFirstBrokenIn, ArePosed, AreRight}
use Rattle.pc_proof.proofs.BlockLines.{first-once, first-breaks, demands-from_unbroken}
use Rattle.pc_proof.proofs.Sound.{right_from_unbroken}

-- ---- at most one first broken demand

module _ (case : Premises) (first rule other kind : ℕ) where
  abbrev Same : Type 0
  Same = (first ≡ other) × (rule ≡ kind)

  block-once : (block : Block) (at : ℕ) (nodes : Option (List CutNode)) (A B : List CutNode → ℕ → Type 0)
      → ((found : List CutNode) (next : ℕ) → A found next → B found next → Same)
      → broken_with case block at first rule nodes A → broken_with case block at other kind nodes B → Same
  block-once block at None A B later a b = first-once (setting_of case block []) first rule other kind (treeless_demands at block.name) a b
  block-once block at (Some nodes) A B later (inl a) (inl b) =
      first-once (setting_of case block nodes) first rule other kind (block_demands (lines_of block.tree) (setting_of case block nodes) at block.answer) a b
  block-once block at (Some nodes) A B later (inl a) (inr b) =
      absurd (first-breaks (setting_of case block nodes) first rule (block_demands (lines_of block.tree) (setting_of case block nodes) at block.answer) a b.0)
  block-once block at (Some nodes) A B later (inr a) (inl b) =
      absurd (first-breaks (setting_of case block nodes) other kind (block_demands (lines_of block.tree) (setting_of case block nodes) at block.answer) b a.0)
  block-once block at (Some nodes) A B later (inr a) (inr b) = later nodes _ a.1 b.1

  blocks-once : (blocks : List Block) (before : Option (List CutNode)) (at : ℕ)
      → IsFirstBrokenIn case before at first rule blocks → IsFirstBrokenIn case before at other kind blocks → Same
  blocks-once [] before at a b = absurd a
  blocks-once (block ∷ blocks) before at a b =
      block-once block at (nodes_after before block.tree)
      (λ nodes next. IsFirstBrokenIn case (Some nodes) next first rule blocks) (λ nodes next. IsFirstBrokenIn case (Some nodes) next other kind blocks)
      (λ nodes next. blocks-once blocks (Some nodes) next) a b

pub document-once : (case : Premises) (before : Option (List CutNode)) (at first rule other kind : ℕ) (blocks : List Block)
    → IsFirstBrokenIn case before at first rule blocks → IsFirstBrokenIn case before at other kind blocks → (first ≡ other) × (rule ≡ kind)
document-once case before at first rule other kind blocks = blocks-once case first rule other kind blocks before at

-- ---- none where no rule is broken

module _ (case : Premises) (line rule : ℕ) where
  block-whole : (block : Block) (at : ℕ) (nodes : Option (List CutNode)) (A : List CutNode → ℕ → Type 0) (B : List CutNode → Type 0)
      → ((found : List CutNode) (next : ℕ) → A found next → B found → ⊥)
      → broken_with case block at line rule nodes A → unbroken_with nodes (λ found. IsUnbroken (setting_of case block found) block.answer × B found) → ⊥
  block-whole block at None A B later broken unbroken = unbroken
  block-whole block at (Some nodes) A B later (inl broken) unbroken =
      first-breaks (setting_of case block nodes) line rule (block_demands (lines_of block.tree) (setting_of case block nodes) at block.answer) broken
      (demands-from_unbroken (lines_of block.tree) (setting_of case block nodes) at block.answer unbroken.0)
  block-whole block at (Some nodes) A B later (inr broken) unbroken = later nodes _ broken.1 unbroken.1

  blocks-whole : (blocks : List Block) (before : Option (List CutNode)) (at : ℕ) → IsFirstBrokenIn case before at line rule blocks → AreUnbroken case before blocks → ⊥
  blocks-whole [] before at broken unbroken = broken
  blocks-whole (block ∷ blocks) before at broken unbroken =
      block-whole block at (nodes_after before block.tree)
      (λ nodes next. IsFirstBrokenIn case (Some nodes) next line rule blocks) (λ nodes. AreUnbroken case (Some nodes) blocks)
      (λ nodes next. blocks-whole blocks (Some nodes) next) broken unbroken

pub document-whole : (case : Premises) (before : Option (List CutNode)) (at line rule : ℕ) (blocks : List Block)
    → IsFirstBrokenIn case before at line rule blocks → AreUnbroken case before blocks → ⊥
document-whole case before at line rule blocks = blocks-whole case line rule blocks before at

-- ---- right where no rule is broken

module _ (case : Premises) where
  abbrev IsRightBlock : Block → Type 0
  IsRightBlock block = IsRight (setting_of case block []).question (plain_answer block.answer)

  abbrev IsPosedBlock : Block → Type 0
  IsPosedBlock block = IsWellPosed (setting_of case block []).question

  block-right : (block : Block) (blocks : List Block) (nodes : Option (List CutNode)) (A B : List CutNode → Type 0)
      → ((found : List CutNode) → A found → B found → All IsRightBlock blocks) → IsPosedBlock block
      → formed_with nodes (λ found. HasForm (setting_of case block found) block.answer × A found)
      → unbroken_with nodes (λ found. IsUnbroken (setting_of case block found) block.answer × B found) → All IsRightBlock (block ∷ blocks)
  block-right block blocks None A B later posed form unbroken = absurd unbroken
  block-right block blocks (Some nodes) A B later posed form unbroken =
      All-cons IsRightBlock block blocks (right_from_unbroken (setting_of case block nodes) block.answer posed form.0 unbroken.0) (later nodes form.1 unbroken.1)

  blocks-right : (blocks : List Block) (before : Option (List CutNode)) → ArePosed case blocks → HaveForm case before blocks → AreUnbroken case before blocks → All IsRightBlock blocks
  blocks-right [] before posed form unbroken = All-nil IsRightBlock
  blocks-right (block ∷ blocks) before posed form unbroken =
      block-right block blocks (nodes_after before block.tree) (λ nodes. HaveForm case (Some nodes) blocks) (λ nodes. AreUnbroken case (Some nodes) blocks)
      (λ nodes. blocks-right blocks (Some nodes) (All-tail IsPosedBlock block blocks posed)) (All-head IsPosedBlock block blocks posed) form unbroken

pub right-from_document : (case : Premises) (before : Option (List CutNode)) (blocks : List Block)
    → ArePosed case blocks → HaveForm case before blocks → AreUnbroken case before blocks → AreRight case blocks
right-from_document case before blocks = blocks-right case blocks before
