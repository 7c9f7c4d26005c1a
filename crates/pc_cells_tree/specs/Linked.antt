-- Trees of cuts whose nodes are linked by number, the boxes of their nodes, and what becomes of one as it is refined.
use Rattle.std.specs.Prelude.{◌≡◌, ℕ, ◌+◌, ◌*◌, ◌<◌, ◌≤◌, ⊤, ◌⊎◌, Bool, true, false, List, [], ◌∷◌, ◌++◌, length, All, count_by, slice_index_or}
use Rattle.pc_model.specs.declared.schema.Schema.{Schema}
use Rattle.pc_model.specs.declared.region.Region.{Region}
use Rattle.pc_model.specs.declared.area.Area.{Area}
use Rattle.pc_model.specs.declared.constraint.When.{When}
use Rattle.pc_model.specs.declared.constraint.When.TheVariants.{Boxes, Outside}
use Rattle.pc_model.specs.declared.constraint.Constraint.{Constraint}
use Rattle.pc_model.specs.declared.tree.Cut.{Cut}
use Rattle.pc_model.specs.declared.tree.LeafMark.TheVariants.{Barren}
use Rattle.pc_model.specs.declared.tree.CutNode.{CutNode}
use Rattle.pc_model.specs.declared.tree.CutNode.TheVariants as forms
use Rattle.pc_model.specs.Accepted.{constraint_limit}
use Rattle.pc_model.specs.Boxes.{IsAreaOf, IsServable}
use Rattle.pc_model.specs.Regions.{whole_region, whole_area}
use Rattle.pc_model.specs.WellFormed.{IsWellFormed}
use Rattle.pc_model.specs.CutTrees.{IsProper, first_part, second_part}
use Rattle.pc_cells_tree.specs.Decisions.{CanBeSettled, IsNeeded}

abbrev pub node_at : List CutNode → ℕ → CutNode
node_at nodes k = slice_index_or nodes k (forms.Leaf Barren)

abbrev pub box_at : List Region → ℕ → Region
box_at boxes k = slice_index_or boxes k (record { sides = [] })

-- ---- trees

-- the cut is proper for the box, and gives its parts to two later nodes
pub record IsCutInto (boxes : List Region) (k : ℕ) (cut : Cut) (first second : ℕ) : Type 0 where
  pub proper : IsProper (box_at boxes k) cut
  pub first_later : k < first
  pub first_there : first < length boxes
  pub first_is : box_at boxes first ≡ first_part (box_at boxes k) cut
  pub second_later : k < second
  pub second_there : second < length boxes
  pub second_is : box_at boxes second ≡ second_part (box_at boxes k) cut

-- a leaf is kept without a mark
abbrev pub IsNodeAt : List Region → ℕ → CutNode → Type 0
IsNodeAt boxes k (forms.Leaf mark) = mark ≡ Barren
IsNodeAt boxes k (forms.Inner cut first second) = IsCutInto boxes k cut first second

abbrev pub IsParentOf : ℕ → CutNode → Type 0
IsParentOf k (forms.Leaf mark) = ⊥
IsParentOf k (forms.Inner cut first second) = (k ≡ first) ⊎ (k ≡ second)

-- the boxes of the nodes of a tree of proper cuts, whose root has the whole
pub record AreBoxesOf (whole : Region) (nodes : List CutNode) (boxes : List Region) : Type 0 where
  pub some : 0 < length nodes
  pub long : length boxes ≡ length nodes
  pub root : box_at boxes 0 ≡ whole
  pub each : (k : ℕ) → k < length nodes → IsNodeAt boxes k (node_at nodes k)
  pub reached : (k : ℕ) → 0 < k → k < length nodes → (parent : ℕ) × (parent < k) × IsParentOf k (node_at nodes parent)

-- a tree of proper cuts over the domain
abbrev pub IsTree : Schema → List CutNode → Type 0
IsTree schema nodes = (boxes : List Region) × AreBoxesOf (whole_region schema) nodes boxes

-- ---- leaves that can be marked

-- the domain of a schema can be divided for the constraints and the area
pub record CanBeDivided (schema : Schema) (constraints : List Constraint) (chosen : Area) : Type 0 where
  pub well_formed : IsWellFormed schema
  pub few : length constraints ≤ constraint_limit
  pub servable : All (IsServable schema) constraints
  pub area : IsAreaOf schema chosen

abbrev pub IsDone : List Constraint → Area → Region → CutNode → Type 0
IsDone constraints chosen box (forms.Leaf mark) = CanBeSettled constraints chosen box
IsDone constraints chosen box (forms.Inner cut first second) = ⊤

-- each leaf below that number can be marked as settled
abbrev pub AreDoneBelow : List Constraint → Area → List CutNode → List Region → ℕ → Type 0
AreDoneBelow constraints chosen nodes boxes end = (k : ℕ) → k < end → IsDone constraints chosen (box_at boxes k) (node_at nodes k)

-- each leaf can
abbrev pub IsDividedFor : Schema → List Constraint → Area → List CutNode → Type 0
IsDividedFor schema constraints chosen nodes = (boxes : List Region) → AreBoxesOf (whole_region schema) nodes boxes → AreDoneBelow constraints chosen nodes boxes (length nodes)

-- ---- what becomes of a tree that is refined

-- the old nodes that are inner ones, or leaves that can be marked, keep their numbers, and the new ones stand after the old ones
pub record HasKept (schema : Schema) (constraints : List Constraint) (chosen : Area) (before after : List CutNode) : Type 0 where
  pub longer : length before ≤ length after
  pub same : (boxes : List Region) → AreBoxesOf (whole_region schema) before boxes →
      (k : ℕ) → k < length before → IsDone constraints chosen (box_at boxes k) (node_at before k) → node_at after k ≡ node_at before k

abbrev pub IsInnerNode : CutNode → Type 0
IsInnerNode (forms.Leaf mark) = ⊥
IsInnerNode (forms.Inner cut first second) = ⊤

-- the inner nodes have their numbers, cuts and parts still
pub record KeepsInner (before after : List CutNode) : Type 0 where
  pub longer : length before ≤ length after
  pub same : (k : ℕ) → k < length before → IsInnerNode (node_at before k) → node_at after k ≡ node_at before k

abbrev pub is_leaf_node : CutNode → Bool
is_leaf_node (forms.Leaf mark) = true
is_leaf_node (forms.Inner cut first second) = false

-- each cut divides a leaf of the old tree, or a part of one, that could not be marked
abbrev pub HasNeededCuts : Schema → List Constraint → Area → List CutNode → List CutNode → Type 0
HasNeededCuts schema constraints chosen before after =
    (boxes : List Region) → AreBoxesOf (whole_region schema) after boxes →
    (k : ℕ) (cut : Cut) (first second : ℕ) → is_leaf_node (node_at before k) ≡ true → node_at after k ≡ forms.Inner cut first second → IsNeeded constraints chosen (box_at boxes k) cut

abbrev pub leaf_count : List CutNode → ℕ
leaf_count nodes = count_by is_leaf_node nodes

-- the predicate has one box, or is outside
abbrev pub IsSimple : When → Type 0
IsSimple (Boxes area) = length area.boxes ≡ 1
IsSimple Outside = ⊤

-- where all leaves could be marked without the last constraint, which has one box at most, and the whole domain is asked for,
-- there are at most four cuts for each column and old leaf
abbrev pub IsFrugal : Schema → List Constraint → Area → List CutNode → ℕ → Type 0
IsFrugal schema constraints chosen nodes cuts =
    (rest : List Constraint) (last : Constraint) → constraints ≡ rest ++ last ∷ [] → IsSimple last.when → chosen ≡ whole_area schema → IsDividedFor schema rest chosen nodes →
    cuts ≤ 4 * length schema.columns * leaf_count nodes

-- the tree was cut on by so many cuts, until it is divided
pub record IsCutOn (schema : Schema) (constraints : List Constraint) (chosen : Area) (before after : List CutNode) (count : ℕ) : Type 0 where
  pub tree : IsTree schema after
  pub divided : IsDividedFor schema constraints chosen after
  pub kept : HasKept schema constraints chosen before after
  pub cuts : length after ≡ length before + 2 * count
  pub needed : HasNeededCuts schema constraints chosen before after
  pub frugal : IsFrugal schema constraints chosen before count
