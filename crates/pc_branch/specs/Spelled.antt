-- The nodes of a search's tree, written one after another from a stack of the numbers that are still to be written.
use Rattle.std.specs.Prelude.{◌≡◌, ℕ, ◌+◌, ◌≤◌, List, [], ◌∷◌, ◌++◌, length, Option, Some, None, ⊤}
use Rattle.pc_model.specs.declared.tree.Mult.{Mult}
use Rattle.pc_model.specs.declared.tree.TreeNode.{TreeNode}
use Rattle.pc_model.specs.declared.tree.TreeNode.TheVariants as shown
use Rattle.pc_program_bound.specs.Sums.{nat_at}
use Rattle.pc_program_bound.specs.SplitTrees.{nodes_from}
use Rattle.pc_program_bound.specs.SplitTrees as trees
use Rattle.pc_frontier.specs.declared.node.Node.{Node}
use Rattle.pc_frontier.specs.Boxes.{Grown, root_of, size_of, AreGrown}
use Rattle.pc_branch.specs.declared.visited.Known.{Known}
use Rattle.pc_branch.specs.declared.visited.Known.TheVariants as knowns
use Rattle.pc_branch.specs.declared.visited.Visited.{Visited}
use Rattle.pc_branch.specs.Grown.{IsPartedAt, proof_of}
use Rattle.pc_branch.specs.Ends.{AreSplitsKnown}

-- ---- sizes

-- each number from a place on has the size of the tree whose root it is
abbrev pub AreSized : List Node → List ℕ → ℕ → Type 0
AreSized nodes sizes place = (g : Grown) → AreGrown nodes g → place ≤ root_of g → nat_at sizes (root_of g) ≡ size_of g

-- ---- nodes

abbrev pub leaf_node_as : Known → Mult → TreeNode
leaf_node_as knowns.Nothing mult = shown.Void mult
leaf_node_as knowns.Whole mult = shown.Bound mult
leaf_node_as (knowns.Parted cell at) mult = shown.Bound mult
leaf_node_as knowns.Stuck mult = shown.Bound mult

-- the leaf that a visit shows
abbrev pub leaf_node : Visited → TreeNode
leaf_node v = leaf_node_as v.known v.mult

-- a split with this number, whose first tree has a size
abbrev pub IsSplitNode : Known → ℕ → ℕ → TreeNode → Type 0
IsSplitNode known place size node = (cell at : ℕ) → IsPartedAt cell at known → node ≡ shown.Split cell at (place + 1) (place + 1 + size)

-- the node of a visit, whose first child may be known
abbrev pub IsNodeAt : Visited → Option ℕ → ℕ → List ℕ → TreeNode → Type 0
IsNodeAt v None place sizes node = node ≡ leaf_node v
IsNodeAt v (Some first) place sizes node = IsSplitNode v.known place (nat_at sizes first) node

-- both children, the first one last
abbrev pub children_of : Option ℕ → List ℕ
children_of None = []
children_of (Some first) = (first + 1) ∷ first ∷ []

-- ---- what is left to write

-- the roots of trees, the first one last
abbrev pub stacked : List Grown → List ℕ
stacked [] = []
stacked (t ∷ ts) = stacked ts ++ root_of t ∷ []

abbrev pub AreAllKnown : List Node → List Visited → List Grown → Type 0
AreAllKnown nodes visited [] = ⊤
AreAllKnown nodes visited (t ∷ ts) = AreGrown nodes t × AreSplitsKnown visited t × AreAllKnown nodes visited ts

-- the nodes of trees one after another, the first of which has this number
abbrev pub rest_from : List Visited → ℕ → List Grown → List TreeNode
rest_from visited k [] = []
rest_from visited k (t ∷ ts) = nodes_from k (proof_of visited t) ++ rest_from visited (k + trees.size_of (proof_of visited t)) ts

-- what is written and the trees on the stack are the whole tree
pub record IsSpelling (nodes : List Node) (visited : List Visited) (whole written : List TreeNode) (stack : List ℕ) : Type 0 where
  pub left : List Grown
  pub stacked_are : stack ≡ stacked left
  pub known : AreAllKnown nodes visited left
  pub spelled : written ++ rest_from visited (length written) left ≡ whole
