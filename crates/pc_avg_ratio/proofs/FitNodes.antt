-- The multipliers of a tree's nodes fit where those of its leaves do.
use Rattle.std.proofs.Common.{ℕ, ◌+◌, List, [], ◌++◌, All, sym, subst}
use Rattle.std.proofs.lemmas.List.Elements.{All-nil, All-cons, All-append}
use Rattle.pc_model.specs.declared.tree.TreeNode.{TreeNode}
use Rattle.pc_model.specs.declared.tree.TreeNode.TheVariants as nodes
use Rattle.pc_program_bound.specs.SplitTrees.{SplitTree, bound, void, split, size_of, nodes_from, IsInPreorder, tree_of}
use Rattle.pc_branch.specs.Outcome.{AreFitLeaves}
use Rattle.pc_program_bound.specs.Walk.{HasFitNumbers}

fit_from : (k : ℕ) (t : SplitTree) → AreFitLeaves t → All HasFitNumbers (nodes_from k t)
fit_from k (bound m) fits = All-cons HasFitNumbers (nodes.Bound m) [] fits.0 (All-nil HasFitNumbers)
fit_from k (void m) fits = All-cons HasFitNumbers (nodes.Void m) [] tt (All-nil HasFitNumbers)
fit_from k (split cell at t u) fits =
    All-cons HasFitNumbers (nodes.Split cell at (k + 1) (k + 1 + size_of t)) (nodes_from (k + 1) t ++ nodes_from (k + 1 + size_of t) u) tt
    (All-append HasFitNumbers (nodes_from (k + 1) t) (nodes_from (k + 1 + size_of t) u) (fit_from (k + 1) t fits.0) (fit_from (k + 1 + size_of t) u fits.1))

pub fit_nodes : (list : List TreeNode) → IsInPreorder list → AreFitLeaves (tree_of list) → All HasFitNumbers list
fit_nodes list preorder fits = subst (All HasFitNumbers) (sym preorder) (fit_from 0 (tree_of list) fits)
