-- What one line of a search tree is, over the box of its node.
use Rattle.std.specs.Prelude.{◌≡◌, ℕ, ◌<◌, ◌≤◌, Some, None}
use Rattle.pc_model.specs.declared.tree.Mult.{Mult}
use Rattle.pc_model.specs.declared.tree.TreeNode.{TreeNode}
use Rattle.pc_model.specs.declared.tree.TreeNode.TheVariants as nodes
use Rattle.pc_program_bound.specs.declared.program.Program.{Program}
use Rattle.pc_program_bound.specs.Sums.{nat_at}
use Rattle.pc_program_bound.specs.Allocation.{cells_of, IsBox}
use Rattle.pc_program_bound.specs.Bound.{bound_of, IsMultiplier, IsVoid}
use Rattle.pc_check_rules.specs.declared.tree_line.Corner.{Corner}
use Rattle.pc_check_rules.specs.declared.tree_line.Finding.{Finding}
use Rattle.pc_check_rules.specs.declared.tree_line.Finding.TheVariants as found

-- the box lies inside that of the program
abbrev pub IsOpen : Program → Corner → Type 0
IsOpen p corner = IsBox p corner.floors corner.caps

-- the number divides the range of a cell
abbrev pub Divides : Program → Corner → ℕ → ℕ → Type 0
Divides p corner cell at = (cell < cells_of p) × (nat_at corner.floors cell ≤ at) × (at < nat_at corner.caps cell)

abbrev pub IsSplitFinding : Program → Corner → ℕ → ℕ → Finding → Type 0
IsSplitFinding p corner cell at found.Broken = Divides p corner cell at → ⊥
IsSplitFinding p corner cell at (found.Sound bound) = ⊥
IsSplitFinding p corner cell at found.Splits = Divides p corner cell at

abbrev pub IsBoundFinding : Program → Corner → Mult → Finding → Type 0
IsBoundFinding p corner m found.Broken = IsMultiplier p m → ⊥
IsBoundFinding p corner m (found.Sound bound) = IsMultiplier p m × (bound ≡ Some (bound_of p corner.floors corner.caps m))
IsBoundFinding p corner m found.Splits = ⊥

abbrev pub IsVoidFinding : Program → Corner → Mult → Finding → Type 0
IsVoidFinding p corner m found.Broken = IsVoid p corner.floors corner.caps m → ⊥
IsVoidFinding p corner m (found.Sound bound) = IsVoid p corner.floors corner.caps m × (bound ≡ None)
IsVoidFinding p corner m found.Splits = ⊥

abbrev pub IsFinding : Program → Corner → TreeNode → Finding → Type 0
IsFinding p corner (nodes.Split cell at less more) finding = IsSplitFinding p corner cell at finding
IsFinding p corner (nodes.Bound m) finding = IsBoundFinding p corner m finding
IsFinding p corner (nodes.Void m) finding = IsVoidFinding p corner m finding
