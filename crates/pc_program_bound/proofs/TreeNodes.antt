-- The nodes of a tree of splits in preorder.
use Rattle.std.proofs.Common.{◌≡◌, ℕ, ◌+◌, List, [], ◌∷◌, ◌++◌, refl, ◌∙◌, ap, append_assoc, append-nil, sym}
use Rattle.pc_model.specs.declared.tree.TreeNode.{TreeNode}
use Rattle.pc_program_bound.specs.SplitTrees.{SplitTree, bound, void, split, size_of, nodes_from, joined, trees_of, first_of_trees, tree_of}

-- the nodes of a tree, and more behind them, spell that tree first
pub trees_of-nodes : (t : SplitTree) (number : ℕ) (more : List TreeNode) → trees_of (nodes_from number t ++ more) ≡ t ∷ trees_of more
trees_of-nodes (bound m) number more = refl
trees_of-nodes (void m) number more = refl
trees_of-nodes (split cell at t u) number more =
    ap (λ list. joined cell at (trees_of list)) (append_assoc (nodes_from (number + 1) t) (nodes_from (number + 1 + size_of t) u) more)
    ∙ ap (joined cell at) (trees_of-nodes t (number + 1) (nodes_from (number + 1 + size_of t) u ++ more) ∙ ap (λ trees. t ∷ trees) (trees_of-nodes u (number + 1 + size_of t) more))

-- the nodes of a tree in preorder are those of no other tree
pub tree_of-nodes : (t : SplitTree) → tree_of (nodes_from 0 t) ≡ t
tree_of-nodes t = ap tree_of (sym (append-nil (nodes_from 0 t))) ∙ ap first_of_trees (trees_of-nodes t 0 [])

pub ruleset nodes_spell = (tree_of-nodes)
