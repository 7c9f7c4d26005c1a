-- Trees of splits, which prove a bound by the bounds of their leaves.
use Rattle.std.specs.Prelude.{◌≡◌, ℕ, ◌+◌, ◌<◌, ◌≤◌, ℤ, pos, ◌≤ℤ◌, List, [], ◌∷◌, ◌++◌, slice_set, Option, Some, None, MatchOption}
use Rattle.std.specs.Int.{int_max}
use Rattle.pc_model.specs.declared.tree.Mult.{Mult}
use Rattle.pc_model.specs.declared.tree.TreeNode.{TreeNode}
use Rattle.pc_model.specs.declared.tree.TreeNode.TheVariants as nodes
use Rattle.pc_program_bound.specs.declared.program.Program.{Program}
use Rattle.pc_program_bound.specs.Sums.{nat_at}
use Rattle.pc_program_bound.specs.Allocation.{cells_of}
use Rattle.pc_program_bound.specs.Bound.{bound_of, IsMultiplier, IsVoid}

-- a split gives the first tree the counts of its cell up to a number, the second the greater ones
pub data SplitTree : Type 0 where
  bound : Mult → SplitTree
  void : Mult → SplitTree
  split : (cell at : ℕ) → SplitTree → SplitTree → SplitTree

-- ---- the nodes of a tree

abbrev pub size_of : SplitTree → ℕ
size_of (bound m) = 1
size_of (void m) = 1
size_of (split cell at t u) = 1 + size_of t + size_of u

-- the nodes in preorder, the first of which has this number
abbrev pub nodes_from : ℕ → SplitTree → List TreeNode
nodes_from k (bound m) = nodes.Bound m ∷ []
nodes_from k (void m) = nodes.Void m ∷ []
nodes_from k (split cell at t u) =
    nodes.Split cell at (k + 1) (k + 1 + size_of t) ∷ nodes_from (k + 1) t ++ nodes_from (k + 1 + size_of t) u

-- the trees that the nodes spell, read from the last one: a split takes the two trees after it
abbrev pub joined : ℕ → ℕ → List SplitTree → List SplitTree
joined cell at [] = []
joined cell at (t ∷ []) = t ∷ []
joined cell at (t ∷ u ∷ ts) = split cell at t u ∷ ts

abbrev pub trees_of : List TreeNode → List SplitTree
trees_of [] = []
trees_of (nodes.Bound m ∷ rest) = bound m ∷ trees_of rest
trees_of (nodes.Void m ∷ rest) = void m ∷ trees_of rest
trees_of (nodes.Split cell at less more ∷ rest) = joined cell at (trees_of rest)

-- the first tree, where there is one
abbrev pub first_of_trees : List SplitTree → SplitTree
first_of_trees [] = void (record { by = []; den = pos 1 })
first_of_trees (t ∷ ts) = t

-- the tree that the nodes spell, where they spell one
abbrev pub tree_of : List TreeNode → SplitTree
tree_of list = first_of_trees (trees_of list)

-- the nodes are those of one tree, in preorder
abbrev pub IsInPreorder : List TreeNode → Type 0
IsInPreorder list = list ≡ nodes_from 0 (tree_of list)

-- ---- what a tree proves

-- the box of the counts up to a number, and that of the greater ones
abbrev pub less_caps : List ℕ → ℕ → ℕ → List ℕ
less_caps caps cell at = slice_set caps cell at

abbrev pub more_floors : List ℕ → ℕ → ℕ → List ℕ
more_floors floors cell at = slice_set floors cell (at + 1)

-- the greater of two bounds, where nothing is below every number
abbrev pub greater : Option ℤ → Option ℤ → Option ℤ
greater None b = b
greater (Some x) None = Some x
greater (Some x) (Some y) = Some (int_max x y)

-- the greatest bound of the leaves, or nothing where all leaves are void
abbrev pub bound_by : Program → List ℕ → List ℕ → SplitTree → Option ℤ
bound_by p floors caps (bound m) = Some (bound_of p floors caps m)
bound_by p floors caps (void m) = None
bound_by p floors caps (split cell at t u) =
    greater (bound_by p floors (less_caps caps cell at) t) (bound_by p (more_floors floors cell at) caps u)

-- each split divides the range of its cell, and each leaf shows what it says
abbrev pub Proves : Program → List ℕ → List ℕ → SplitTree → Type 0
Proves p floors caps (bound m) = IsMultiplier p m
Proves p floors caps (void m) = IsVoid p floors caps m
Proves p floors caps (split cell at t u) =
    (cell < cells_of p) × (nat_at floors cell ≤ at) × (at < nat_at caps cell)
    × Proves p floors (less_caps caps cell at) t × Proves p (more_floors floors cell at) caps u

-- a number that is at most the bound
abbrev pub IsWithin : ℤ → Option ℤ → Type 0
IsWithin v most = MatchOption most ⊥ (λ k. v ≤ℤ k)
