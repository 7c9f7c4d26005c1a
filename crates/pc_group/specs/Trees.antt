-- One tree of cuts for many blocks, and how the tree of each is written.
use Rattle.std.specs.Prelude.{◌≡◌, ⊤, ℕ, true, List, [], ◌∷◌, map, All, Any, Option, Some, None, IsSome}
use Rattle.pc_model.specs.declared.schema.Schema.{Schema}
use Rattle.pc_model.specs.declared.constraint.Constraint.{Constraint}
use Rattle.pc_model.specs.declared.region.Region.{Region}
use Rattle.pc_model.specs.declared.area.Area.{Area}
use Rattle.pc_model.specs.declared.tree.Cut.{Cut}
use Rattle.pc_model.specs.declared.tree.CutNode.{CutNode}
use Rattle.pc_model.specs.declared.tree.CutNode.TheVariants as forms
use Rattle.pc_model.specs.CutTrees.{CutShape, leaf, inner, shape_of}
use Rattle.pc_model.specs.Regions.{whole_region}
use Rattle.pc_cells_tree.specs.Decisions.{IsNeeded}
use Rattle.pc_cells_tree.specs.Linked.{AreBoxesOf, IsDividedFor, box_at, is_leaf_node, node_at}
use Rattle.pc_cells_tree.specs.Owned.{HasOwnBits}
use Rattle.pc_cells_tree.specs.Walking.{HasCutsAt}
use Rattle.pc_proof.specs.declared.document.Block.{Block}
use Rattle.pc_proof.specs.declared.document.BlockTree.{BlockTree}
use Rattle.pc_proof.specs.declared.document.BlockTree.TheVariants as trees
use Rattle.pc_proof.specs.Documents.{nodes_after}
use Rattle.pc_group.specs.Wanted.{Wanted, area_of}

-- each leaf can be marked for the area of each block
abbrev pub AreDividedFor : Schema → List Constraint → List CutNode → List Wanted → Type 0
AreDividedFor schema constraints nodes blocks = All (λ (w : Wanted). IsDividedFor schema constraints (area_of w) nodes) blocks

-- each cut divides a leaf of the old tree, or a part of one, that could not be marked for one of the areas
abbrev pub HasCutsForSome : Schema → List Constraint → List Area → List CutNode → List CutNode → Type 0
HasCutsForSome schema constraints areas before after =
    (boxes : List Region) → AreBoxesOf (whole_region schema) after boxes →
    (k : ℕ) (cut : Cut) (first second : ℕ) → is_leaf_node (node_at before k) ≡ true → node_at after k ≡ forms.Inner cut first second →
    Any (λ (area : Area). IsNeeded constraints area (box_at boxes k) cut) areas

-- .. for the area of one of the blocks
abbrev pub HasCutsForBlocks : Schema → List Constraint → List Wanted → List CutNode → List CutNode → Type 0
HasCutsForBlocks schema constraints blocks before after = HasCutsForSome schema constraints (map area_of blocks) before after

-- the bits of the cuts of a tree are of names of their columns
abbrev pub HasOwnShape : Schema → CutShape → Type 0
HasOwnShape schema (leaf mark) = ⊤
HasOwnShape schema (inner cut t u) = HasOwnBits schema cut × HasOwnShape schema t × HasOwnShape schema u

-- ---- the trees of blocks

-- a block, and the nodes of the tree that it says
pub record Told : Type 0 where
  pub block : Block
  pub nodes : List CutNode

abbrev pub told_with : Block → Option (List CutNode) → (Option (List CutNode) → List Told) → List Told
told_with block None later = record { block = block; nodes = [] } ∷ later None
told_with block (Some nodes) later = record { block = block; nodes = nodes } ∷ later (Some nodes)

-- blocks after one with such a tree
unfoldable pub told_after : List Block → Option (List CutNode) → List Told
told_after [] before = []
told_after (block ∷ blocks) before = told_with block (nodes_after before block.tree) (told_after blocks)

abbrev pub told : List Block → List Told
told blocks = told_after blocks None

-- the tree of each block is one tree, with marks
abbrev pub AreOfTree : List CutNode → List Told → Type 0
AreOfTree shared blocks = All (λ (t : Told). HasCutsAt shared 0 (shape_of t.nodes)) blocks

-- a tree is written where it is not that of the block before
abbrev pub IsWrittenAfter : Option (List CutNode) → BlockTree → Type 0
IsWrittenAfter before trees.Same = IsSome before
IsWrittenAfter before (trees.Own tree) = ¬ (before ≡ Some tree.nodes)

unfoldable pub AreWrittenAfter : List Block → Option (List CutNode) → Type 0
AreWrittenAfter [] before = ⊤
AreWrittenAfter (block ∷ blocks) before = IsWrittenAfter before block.tree × AreWrittenAfter blocks (nodes_after before block.tree)

abbrev pub AreWritten : List Block → Type 0
AreWritten blocks = AreWrittenAfter blocks None
