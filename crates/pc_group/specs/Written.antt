-- Blocks that are written one after the other.
use Rattle.std.specs.Prelude.{◌≡◌, ℕ, List, [], ◌∷◌, ◌++◌, Option, None, Some}
use Rattle.std.specs.List.{AllZip}
use Rattle.pc_model.specs.declared.query.Query.{Query}
use Rattle.pc_model.specs.declared.tree.CutNode.{CutNode}
use Rattle.pc_proof.specs.declared.answer.Answer.{Answer}
use Rattle.pc_proof.specs.declared.document.Block.{Block}
use Rattle.pc_proof.specs.declared.document.BlockTree.{BlockTree}
use Rattle.pc_proof.specs.Documents.{nodes_after}
use Rattle.pc_group.specs.declared.blocks.Written.{Written}
use Rattle.pc_group.specs.Trees.{Told, AreOfTree, AreWritten, IsWrittenAfter, told}
use Rattle.pc_group.specs.Wanted.{Wanted}

-- the nodes that the last block says, or those before the first
unfoldable pub last_after : List Block → Option (List CutNode) → Option (List CutNode)
last_after [] before = before
last_after (block ∷ blocks) before = last_after blocks (nodes_after before block.tree)

-- blocks of the wanted ones so far, over one tree, and the nodes of the last one
pub record AreBlocksOf (Answers : Wanted → Told → Type 0) (shared : List CutNode) (blocks : List Wanted) (written : Written) : Type 0 where
  pub answers : AllZip Answers blocks (told written.blocks)
  pub of_tree : AreOfTree shared (told written.blocks)
  pub own : AreWritten written.blocks
  pub last_is : written.last ≡ last_after written.blocks None

-- one block more: the tree that is written for it says these nodes, and is not written again
pub record HasBlock (before : Written) (query : Query) (name : Option ℕ) (nodes : List CutNode) (answer : Answer) (after : Written) : Type 0 where
  pub tree : BlockTree
  pub blocks : after.blocks ≡ before.blocks ++ record { query = query; name = name; tree = tree; answer = answer } ∷ []
  pub last_is : after.last ≡ Some nodes
  pub says : nodes_after before.last tree ≡ Some nodes
  pub own : IsWrittenAfter before.last tree
