-- How a tree is cut on: a list of its nodes that grows, with their boxes beside it, and what holds of both on the way.
use Rattle.std.specs.Prelude.{◌≡◌, ℕ, ◌+◌, ◌*◌, ◌^◌, ◌<◌, ◌≤◌, ⊤, ◌⊎◌, true, sum_by, drop, List, [], ◌∷◌, ◌++◌, length, All, slice_set}
use Rattle.pc_model.specs.declared.region.Region.{Region}
use Rattle.pc_model.specs.declared.area.Area.{Area}
use Rattle.pc_model.specs.declared.constraint.Constraint.{Constraint}
use Rattle.pc_model.specs.declared.tree.Cut.{Cut}
use Rattle.pc_model.specs.declared.tree.LeafMark.TheVariants.{Barren}
use Rattle.pc_model.specs.declared.tree.CutNode.{CutNode}
use Rattle.pc_model.specs.declared.tree.CutNode.TheVariants as forms
use Rattle.pc_model.specs.CutTrees.{IsInsideArea, first_part, second_part}
use Rattle.pc_box.specs.Cuts.{Divides}
use Rattle.pc_box.specs.Boxes.{IsBox}
use Rattle.pc_cells_tree.specs.declared.refine.Boxed.{Boxed}
use Rattle.pc_cells_tree.specs.Decisions.{IsComparable, IsNeeded}
use Rattle.pc_cells_tree.specs.Faces.{IsSpentBy}
use Rattle.pc_cells_tree.specs.Linked.{node_at, box_at, IsParentOf, AreBoxesOf, IsDone, AreDoneBelow, is_leaf_node}
use Rattle.pc_cells_tree.specs.Rooms.{room}

-- ---- the boxes of a tree, found by number

-- the boxes with those that the node at a place gives to its parts
abbrev pub boxes_with : List Region → ℕ → CutNode → List Region
boxes_with boxes k (forms.Leaf mark) = boxes
boxes_with boxes k (forms.Inner cut first second) = slice_set (slice_set boxes first (first_part (box_at boxes k) cut)) second (second_part (box_at boxes k) cut)

-- the node's cut divides the box, and its parts are among so many
abbrev pub IsCuttable : Region → ℕ → CutNode → Type 0
IsCuttable box count (forms.Leaf mark) = ⊤
IsCuttable box count (forms.Inner cut first second) = IsBox box × Divides box cut × (first < count) × (second < count)

-- the root and the parts of nodes below a place
abbrev pub IsReachedBelow : List CutNode → ℕ → ℕ → Type 0
IsReachedBelow nodes place k = (k ≡ 0) ⊎ ((parent : ℕ) × (parent < place) × IsParentOf k (node_at nodes parent))

-- .. have their boxes
pub record AreBoxesBelow (whole : Region) (nodes : List CutNode) (place : ℕ) (boxes : List Region) : Type 0 where
  pub long : length boxes ≡ length nodes
  pub found : (all : List Region) → AreBoxesOf whole nodes all → (k : ℕ) → k < length nodes → IsReachedBelow nodes place k → box_at boxes k ≡ box_at all k

-- ---- one leaf

-- a leaf is cut in two, and its parts stand at the end
abbrev pub nodes_cut : List CutNode → ℕ → Cut → List CutNode
nodes_cut nodes k cut = slice_set nodes k (forms.Inner cut (length nodes) (length nodes + 1)) ++ forms.Leaf Barren ∷ forms.Leaf Barren ∷ []

abbrev pub boxes_cut : List Region → ℕ → Cut → List Region
boxes_cut boxes k cut = boxes ++ first_part (box_at boxes k) cut ∷ second_part (box_at boxes k) cut ∷ []

-- a leaf that no mark fits was cut
pub record IsCutAt (constraints : List Constraint) (chosen : Area) (place : ℕ) (before after : Boxed) : Type 0 where
  pub cut : Cut
  pub leaf : is_leaf_node (node_at before.nodes place) ≡ true
  pub needed : IsNeeded constraints chosen (box_at before.boxes place) cut
  pub nodes_are : after.nodes ≡ nodes_cut before.nodes place cut
  pub boxes_are : after.boxes ≡ boxes_cut before.boxes place cut

-- .. or the node was done, and nothing changed
abbrev pub IsSettledNode : List Constraint → Area → ℕ → Boxed → Boxed → Type 0
IsSettledNode constraints chosen place before after = (after ≡ before) × IsDone constraints chosen (box_at before.boxes place) (node_at before.nodes place)

abbrev pub IsStep : List Constraint → Area → ℕ → Boxed → Boxed → Type 0
IsStep constraints chosen place before after = IsSettledNode constraints chosen place before after ⊎ IsCutAt constraints chosen place before after

-- ---- how many cuts a potential allows

-- what a number for each box comes to over leaves
abbrev pub due : (Region → ℕ) → CutNode → Region → ℕ
due need (forms.Leaf mark) box = need box
due need (forms.Inner cut first second) box = 0

abbrev pub leaf_sum : (Region → ℕ) → List CutNode → List Region → ℕ
leaf_sum need [] boxes = 0
leaf_sum need (node ∷ nodes) [] = 0
leaf_sum need (node ∷ nodes) (box ∷ boxes) = due need node box + leaf_sum need nodes boxes

-- ---- the list as it grows

-- the tree so far, of which the nodes below a number are done
pub record IsRefining (constraints : List Constraint) (chosen : Area) (before now : Boxed) (place : ℕ) : Type 0 where
  pub tree : AreBoxesOf (box_at before.boxes 0) now.nodes now.boxes
  pub comparable : All (IsComparable constraints chosen) now.boxes
  pub done : AreDoneBelow constraints chosen now.nodes now.boxes place
  pub within : place ≤ length now.nodes
  pub longer : length before.nodes ≤ length now.nodes
  pub cuts : (count : ℕ) × (length now.nodes ≡ length before.nodes + 2 * count)
  pub boxes_stay : (k : ℕ) → k < length before.nodes → box_at now.boxes k ≡ box_at before.boxes k
  pub nodes_stay : (k : ℕ) → k < length before.nodes → IsDone constraints chosen (box_at before.boxes k) (node_at before.nodes k) → node_at now.nodes k ≡ node_at before.nodes k
  pub needed : (k : ℕ) (cut : Cut) (first second : ℕ) → is_leaf_node (node_at before.nodes k) ≡ true → node_at now.nodes k ≡ forms.Inner cut first second →
      IsNeeded constraints chosen (box_at now.boxes k) cut
  pub divided : (rest : List Constraint) → AreDoneBelow rest chosen before.nodes before.boxes (length before.nodes) → AreDoneBelow rest chosen now.nodes now.boxes (length now.nodes)
  pub spent : (rest : List Constraint) (need : Region → ℕ) → IsSpentBy rest constraints chosen need → AreDoneBelow rest chosen before.nodes before.boxes (length before.nodes) →
      IsInsideArea (box_at before.boxes 0) chosen → cuts.0 + leaf_sum need (drop place now.nodes) (drop place now.boxes) ≤ leaf_sum need before.nodes before.boxes

-- what is still to be gone through from a place on; the two parts of a box have less than the box
abbrev pub work : List Region → ℕ
work boxes = sum_by (λ box. 2 ^ (2 * room box)) boxes

abbrev pub work_from : ℕ → List Region → ℕ
work_from place boxes = work (drop place boxes)
