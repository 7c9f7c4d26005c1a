-- What a tree that is tested shows.
use Rattle.std.specs.Prelude.{◌≡◌, ℕ, ◌+◌, List, ◌++◌, drop, pos, ◌<ℤ◌}
use Rattle.pc_model.specs.declared.tree.Mult.{Mult}
use Rattle.pc_model.specs.declared.tree.TreeNode.{TreeNode}
use Rattle.pc_program_bound.specs.declared.program.Program.{Program}
use Rattle.pc_program_bound.specs.Bound.{IsMultiplier, raw_bound}
use Rattle.pc_program_bound.specs.SplitTrees.{SplitTree, size_of, nodes_from, Proves}

-- the nodes from a place to an end are a tree in preorder that proves its bound over a box
pub record IsShown (p : Program) (floors caps : List ℕ) (nodes : List TreeNode) (place end : ℕ) : Type 0 where
  pub tree : SplitTree
  pub proves : Proves p floors caps tree
  pub nodes_are : drop place nodes ≡ nodes_from place tree ++ drop end nodes
  pub end_is : end ≡ place + size_of tree

-- multipliers whose bound over a box is below 0
pub record IsBelowZero (p : Program) (floors caps : List ℕ) (mult : Mult) : Type 0 where
  pub by : IsMultiplier p mult
  pub whole : mult.den ≡ pos 1
  pub below : raw_bound p floors caps mult <ℤ pos 0
