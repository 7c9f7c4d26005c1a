-- The nodes of a tree, counted in its list and in its splits.
use Rattle.std.proofs.Common.{arith, ◌≡◌, ℕ, ◌+◌, ◌∷◌, ◌++◌, ◌≤◌, List, length, refl, ap}
use Rattle.std.specs.Prelude.{ℤ, Option}
use Rattle.std.proofs.lemmas.List.{length-append}
use Rattle.pc_model.specs.declared.tree.Tree.{Tree}
use Rattle.pc_program_bound.specs.declared.program.Program.{Program}
use Rattle.pc_program_bound.specs.SplitTrees.{SplitTree, bound, void, split, size_of, nodes_from, tree_of, IsInPreorder}
use Rattle.pc_branch.specs.Licence.{nodes_of, IsSearchTree}
use Rattle.pc_branch.specs.Outcome.{splits_of}
use Rattle.pc_branch_licences.specs.Searched.{HasFewNodes}

-- a line of the list for each node
lines_as_nodes : (number : ℕ) (t : SplitTree) → length (nodes_from number t) ≡ nodes_of (splits_of t)
lines_as_nodes number (bound m) = refl
lines_as_nodes number (void m) = refl
lines_as_nodes number (split cell at t u) =
    let second = nodes_from (number + 1 + size_of t) u in
    omega (arith, length-append (nodes_from (number + 1) t) second, lines_as_nodes (number + 1) t, lines_as_nodes (number + 1 + size_of t) u)

-- a search within the budget leaves no longer list
pub few_nodes : (p : Program) (budget : ℕ) (least : Option ℤ) (t : Tree) → IsInPreorder t.nodes → IsSearchTree p budget least (splits_of (tree_of t.nodes)) → HasFewNodes budget t
few_nodes p budget least t preorder search = omega (arith, ap length preorder, lines_as_nodes 0 (tree_of t.nodes), search.few)
