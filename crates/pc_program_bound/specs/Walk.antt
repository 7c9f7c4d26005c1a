-- A walk over the nodes of a tree of splits in preorder, and what is left of it.
use Rattle.std.specs.Prelude.{◌≡◌, ℕ, ◌+◌, ◌<◌, ◌≤◌, ℤ, ⊤, List, [], ◌∷◌, ◌++◌, length, reverse, slice_set, All, Option, Some, None}
use Rattle.pc_model.specs.declared.tree.Mult.{Mult}
use Rattle.pc_model.specs.declared.tree.TreeNode.{TreeNode}
use Rattle.pc_model.specs.declared.tree.TreeNode.TheVariants as nodes
use Rattle.pc_program_bound.specs.declared.program.Program.{Program}
use Rattle.pc_program_bound.specs.Sums.{nat_at}
use Rattle.pc_program_bound.specs.Allocation.{IsBox}
use Rattle.pc_program_bound.specs.Bound.{IsFit, IsMultiplier, bound_of}
use Rattle.pc_program_bound.specs.SplitTrees.{SplitTree, trees_of, bound_by, greater, Proves}
use Rattle.pc_program_bound.specs.declared.walk.OpenSplit.{OpenSplit}
use Rattle.pc_program_bound.specs.declared.walk.OpenSplit.TheVariants.{Less, More}
use Rattle.pc_program_bound.specs.declared.walk.Walk.{Walk}

-- the multipliers of a bound fit
abbrev pub HasFitNumbers : TreeNode → Type 0
HasFitNumbers (nodes.Split cell at less more) = ⊤
HasFitNumbers (nodes.Bound m) = All IsFit m.by
HasFitNumbers (nodes.Void m) = ⊤

-- ---- the steps of a walk

abbrev pub at_root : Program → Walk
at_root p = record { floors = p.floor; caps = p.cap; splits = []; most = None }

-- in the lesser part of a split
abbrev pub in_less : Walk → ℕ → ℕ → Walk
in_less w cell at = record w { caps = slice_set w.caps cell at; splits = w.splits ++ Less cell (nat_at w.caps cell) (at + 1) ∷ [] }

-- in the greater part of a split, with the cap that is put back
abbrev pub in_more : Walk → ℕ → ℕ → ℕ → Walk
in_more w cell cap floor = record w {
  floors = slice_set w.floors cell floor;
  caps = slice_set w.caps cell cap;
  splits = w.splits ++ More cell (nat_at w.floors cell) ∷ [];
}

-- with the bound of a leaf
abbrev pub with_bound : Program → Walk → Mult → Walk
with_bound p w m = record w { most = greater w.most (Some (bound_of p w.floors w.caps m)) }

-- ---- the open boxes

pub record Box : Type 0 where
  pub floors : List ℕ
  pub caps : List ℕ

-- the boxes of the greater parts that are still to come, by the open splits, of which the last one comes first
abbrev pub boxes_after : List ℕ → List ℕ → List OpenSplit → List Box
boxes_after floors caps [] = []
boxes_after floors caps (Less cell cap floor ∷ splits) =
    record { floors = slice_set floors cell floor; caps = slice_set caps cell cap } ∷ boxes_after floors (slice_set caps cell cap) splits
boxes_after floors caps (More cell floor ∷ splits) = boxes_after (slice_set floors cell floor) caps splits

abbrev pub later_boxes : Walk → List Box
later_boxes w = boxes_after w.floors w.caps (reverse w.splits)

-- that of the next node first
abbrev pub boxes_of : Walk → List Box
boxes_of w = record { floors = w.floors; caps = w.caps } ∷ later_boxes w

abbrev pub cell_of : OpenSplit → ℕ
cell_of (Less cell cap floor) = cell
cell_of (More cell floor) = cell

abbrev pub HasCell : ℕ → OpenSplit → Type 0
HasCell n split = cell_of split < n

-- the cells of the open splits are cells of the box
pub record IsStanding (w : Walk) : Type 0 where
  pub paired : length w.floors ≡ length w.caps
  pub cells : All (HasCell (length w.caps)) w.splits

-- the next open box is that of the walk, where there is one
abbrev pub IsNext : List Box → Walk → Type 0
IsNext [] w = ⊤
IsNext (box ∷ boxes) w = boxes_of w ≡ box ∷ boxes

-- past a leaf
pub record HasLeft (before after : Walk) : Type 0 where
  pub stands : IsStanding after
  pub most : after.most ≡ before.most
  pub boxes : IsNext (later_boxes before) after

-- out of some greater parts, with floors and open splits that have the same boxes to come
pub record IsLeaving (before : Walk) (floors : List ℕ) (splits : List OpenSplit) : Type 0 where
  pub paired : length floors ≡ length before.caps
  pub cells : All (HasCell (length before.caps)) splits
  pub boxes : later_boxes before ≡ boxes_after floors before.caps (reverse splits)

-- what a step asks of its node
abbrev pub IsAt : Program → Walk → TreeNode → Type 0
IsAt p w (nodes.Split cell at less more) = (cell < length w.caps) × (at < nat_at w.caps cell)
IsAt p w (nodes.Bound m) = IsBox p w.floors w.caps × IsMultiplier p m × All IsFit m.by
IsAt p w (nodes.Void m) = ⊤

-- past a node
abbrev pub HasPassed : Program → Walk → TreeNode → Walk → Type 0
HasPassed p w (nodes.Split cell at less more) after = after ≡ in_less w cell at
HasPassed p w (nodes.Bound m) after = HasLeft (with_bound p w m) after
HasPassed p w (nodes.Void m) after = HasLeft w after

-- ---- what is left of a walk

-- each split has two trees behind it
abbrev pub HaveParts : List TreeNode → Type 0
HaveParts [] = ⊤
HaveParts (nodes.Split cell at less more ∷ rest) = (2 ≤ length (trees_of rest)) × HaveParts rest
HaveParts (nodes.Bound m ∷ rest) = HaveParts rest
HaveParts (nodes.Void m ∷ rest) = HaveParts rest

-- each tree has a box, and shows what it says over it
abbrev pub ProveOver : Program → List SplitTree → List Box → Type 0
ProveOver p [] boxes = ⊤
ProveOver p (t ∷ ts) [] = ⊥
ProveOver p (t ∷ ts) (box ∷ boxes) = IsBox p box.floors box.caps × Proves p box.floors box.caps t × ProveOver p ts boxes

-- the greatest bound of the trees over their boxes
abbrev pub bound_over : Program → List SplitTree → List Box → Option ℤ
bound_over p [] boxes = None
bound_over p (t ∷ ts) [] = None
bound_over p (t ∷ ts) (box ∷ boxes) = greater (bound_by p box.floors box.caps t) (bound_over p ts boxes)

-- a walk before the nodes that are left: what it found and what their trees give is the whole
pub record IsWalking (p : Program) (whole : Option ℤ) (w : Walk) (left : List TreeNode) : Type 0 where
  pub stands : IsStanding w
  pub parts : HaveParts left
  pub fits : All HasFitNumbers left
  pub proves : ProveOver p (trees_of left) (boxes_of w)
  pub bounded : whole ≡ greater w.most (bound_over p (trees_of left) (boxes_of w))
