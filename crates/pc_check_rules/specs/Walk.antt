-- A walk over the lines of a search tree, and the verdict on them.
use Rattle.std.specs.Prelude.{◌≡◌, ℕ, ◌+◌, ◌<◌, ℤ, ⊤, List, [], ◌∷◌, ◌++◌, length, reverse, slice_set, All, Option, Some, None, MatchOption, Result}
use Rattle.pc_model.specs.declared.tree.TreeNode.{TreeNode}
use Rattle.pc_model.specs.declared.tree.TreeNode.TheVariants as nodes
use Rattle.pc_program_bound.specs.declared.program.Program.{Program}
use Rattle.pc_program_bound.specs.Sums.{nat_at}
use Rattle.pc_program_bound.specs.Bound.{bound_of, IsMultiplier, IsVoid}
use Rattle.pc_program_bound.specs.SplitTrees.{tree_of, less_caps, more_floors, greater, bound_by}
use Rattle.pc_proof.specs.Setting.{Setting}
use Rattle.pc_proof.specs.Demands.{Placed, split_demands}
use Rattle.pc_check_rules.specs.declared.halt.Halt.{Halt}
use Rattle.pc_check_rules.specs.declared.tree_line.Corner.{Corner}
use Rattle.pc_check_rules.specs.declared.tree_line.Finding.TheVariants as found
use Rattle.pc_check_rules.specs.declared.walk.Turn.{Turn}
use Rattle.pc_check_rules.specs.declared.walk.Turn.TheVariants.{Less, More}
use Rattle.pc_check_rules.specs.declared.walk.Walk.{Walk}
use Rattle.pc_check_rules.specs.Halts.{Finds}
use Rattle.pc_check_rules.specs.Lines.{Divides, IsFinding}

-- ---- the whole tree

abbrev pub whole_demands : ℕ → Program → List TreeNode → List Placed
whole_demands line p list = split_demands line p p.floor p.cap (tree_of list)

abbrev pub whole_bound : Program → List TreeNode → Option ℤ
whole_bound p list = bound_by p p.floor p.cap (tree_of list)

-- what is found of the lines of the tree, and its bound
abbrev pub IsTreeFinding : ℕ → Program → List TreeNode → Result (Option ℤ) Halt → Type 0
IsTreeFinding line p list result = (s : Setting) → Finds s (whole_demands line p list) (λ most. most ≡ whole_bound p list) result

-- ---- one line

-- the number of the rule of a line
abbrev pub rule_number : TreeNode → ℕ
rule_number (nodes.Split cell at less more) = 7
rule_number (nodes.Bound m) = 8
rule_number (nodes.Void m) = 8

-- the boxes of the counts up to a number, and of the greater ones
abbrev pub less_part : Corner → ℕ → ℕ → Corner
less_part corner cell at = record { floors = corner.floors; caps = less_caps corner.caps cell at }

abbrev pub more_part : Corner → ℕ → ℕ → Corner
more_part corner cell at = record { floors = more_floors corner.floors cell at; caps = corner.caps }

-- ---- the steps of a walk

abbrev pub at_root : Program → Walk
at_root p = record { corner = record { floors = p.floor; caps = p.cap }; turns = []; most = None }

-- in the lesser part of a split
abbrev pub in_less : Walk → ℕ → ℕ → Walk
in_less w cell at = record w { corner = less_part w.corner cell at; turns = w.turns ++ Less cell (nat_at w.corner.caps cell) (at + 1) ∷ [] }

-- in the greater part of a split, with the cap that is put back
abbrev pub in_more : Walk → ℕ → ℕ → ℕ → Walk
in_more w cell cap floor = record w {
  corner = record { floors = slice_set w.corner.floors cell floor; caps = slice_set w.corner.caps cell cap };
  turns = w.turns ++ More cell (nat_at w.corner.floors cell) ∷ [];
}

-- with the bound of a leaf
abbrev pub with_bound : Walk → Option ℤ → Walk
with_bound w bound = record w { most = greater w.most bound }

-- ---- the open boxes

-- the boxes of the greater parts that are still to come, by the open splits, of which the last one comes first
abbrev pub corners_after : List ℕ → List ℕ → List Turn → List Corner
corners_after floors caps [] = []
corners_after floors caps (Less cell cap floor ∷ turns) =
    record { floors = slice_set floors cell floor; caps = slice_set caps cell cap } ∷ corners_after floors (slice_set caps cell cap) turns
corners_after floors caps (More cell floor ∷ turns) = corners_after (slice_set floors cell floor) caps turns

abbrev pub later_corners : Walk → List Corner
later_corners w = corners_after w.corner.floors w.corner.caps (reverse w.turns)

-- that of the next node first
abbrev pub corners_of : Walk → List Corner
corners_of w = w.corner ∷ later_corners w

abbrev pub cell_of : Turn → ℕ
cell_of (Less cell cap floor) = cell
cell_of (More cell floor) = cell

abbrev pub HasCell : ℕ → Turn → Type 0
HasCell n turn = cell_of turn < n

-- the cells of the open splits are cells of the box
pub record IsStanding (w : Walk) : Type 0 where
  pub paired : length w.corner.floors ≡ length w.corner.caps
  pub cells : All (HasCell (length w.corner.caps)) w.turns

-- the next open box is that of the walk, where there is one
abbrev pub IsNext : List Corner → Walk → Type 0
IsNext [] w = ⊤
IsNext (corner ∷ corners) w = corners_of w ≡ corner ∷ corners

-- past a leaf
pub record HasLeft (before after : Walk) : Type 0 where
  pub stands : IsStanding after
  pub most : after.most ≡ before.most
  pub next : IsNext (later_corners before) after

-- out of some greater parts, with floors and open splits that have the same boxes to come
pub record IsLeaving (before : Walk) (floors : List ℕ) (turns : List Turn) : Type 0 where
  pub paired : length floors ≡ length before.corner.caps
  pub cells : All (HasCell (length before.corner.caps)) turns
  pub corners : later_corners before ≡ corners_after floors before.corner.caps (reverse turns)

-- past a line that keeps its rule
abbrev pub HasPassed : Program → Walk → TreeNode → Walk → Type 0
HasPassed p before (nodes.Split cell at less more) after = Divides p before.corner cell at × (after ≡ in_less before cell at)
HasPassed p before (nodes.Bound m) after = IsMultiplier p m × HasLeft (with_bound before (Some (bound_of p before.corner.floors before.corner.caps m))) after
HasPassed p before (nodes.Void m) after = IsVoid p before.corner.floors before.corner.caps m × HasLeft (with_bound before None) after

-- past a line, or at one that breaks its rule
abbrev pub IsStep : Program → Walk → TreeNode → Option Walk → Type 0
IsStep p before node after = MatchOption after (IsFinding p before.corner node found.Broken) (HasPassed p before node)
