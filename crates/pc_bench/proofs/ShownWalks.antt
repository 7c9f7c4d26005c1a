-- A tree that is tested, from its parts.
use Rattle.std.proofs.Common.{◌≡◌, ℕ, ◌+◌, ◌<◌, ◌≤◌, List, ◌∷◌, ◌++◌, length, drop, get_or, refl, ap, ◌∙◌, sym, subst, arith, append_assoc, append-nil}
use Rattle.std.proofs.lemmas.List.{drop_more, drop_all}
use Rattle.pc_model.specs.declared.tree.Mult.{Mult}
use Rattle.pc_model.specs.declared.tree.TreeNode.{TreeNode}
use Rattle.pc_model.specs.declared.tree.TreeNode.TheVariants as nodes
use Rattle.pc_program_bound.specs.declared.program.Program.{Program}
use Rattle.pc_program_bound.specs.Sums.{nat_at}
use Rattle.pc_program_bound.specs.Allocation.{cells_of}
use Rattle.pc_program_bound.specs.Bound.{IsMultiplier, IsVoid}
use Rattle.pc_program_bound.specs.SplitTrees.{bound, void, split, nodes_from, tree_of, Proves, IsInPreorder, less_caps, more_floors}
use Rattle.pc_program_bound.proofs.TreeNodes.{tree_of-nodes}
use Rattle.pc_bench.specs.ShownWalks.{IsShown}

first-node : (list : List TreeNode) (place : ℕ) (node kind : TreeNode) → place < length list → node ≡ get_or list place node → node ≡ kind
    → drop place list ≡ kind ∷ drop (place + 1) list
first-node list place node kind there is same = drop_more list place node there ∙ ap (λ first. first ∷ drop (place + 1) list) (sym is ∙ same)

pub shown-bound : (p : Program) (floors caps : List ℕ) (list : List TreeNode) (place : ℕ) (node : TreeNode) (m : Mult) → place < length list
    → node ≡ get_or list place node → node ≡ nodes.Bound m → IsMultiplier p m → IsShown p floors caps list place (place + 1)
shown-bound p floors caps list place node m there is same multiplier =
    record { tree = bound m; proves = multiplier; nodes_are = first-node list place node (nodes.Bound m) there is same; end_is = refl }

pub shown-void : (p : Program) (floors caps : List ℕ) (list : List TreeNode) (place : ℕ) (node : TreeNode) (m : Mult) → place < length list
    → node ≡ get_or list place node → node ≡ nodes.Void m → IsVoid p floors caps m → IsShown p floors caps list place (place + 1)
shown-void p floors caps list place node m there is same shows =
    record { tree = void m; proves = shows; nodes_are = first-node list place node (nodes.Void m) there is same; end_is = refl }

pub shown-split : (p : Program) (floors caps : List ℕ) (list : List TreeNode) (place middle end cell at : ℕ) (node : TreeNode) → place < length list
    → node ≡ get_or list place node → node ≡ nodes.Split cell at (place + 1) middle
    → cell < cells_of p → nat_at floors cell ≤ at → at < nat_at caps cell
    → IsShown p floors (less_caps caps cell at) list (place + 1) middle → IsShown p (more_floors floors cell at) caps list middle end
    → IsShown p floors caps list place end
shown-split p floors caps list place middle end cell at node there is same inside low high less more =
    let first = nodes_from (place + 1) less.tree in
    let behind = less.nodes_are ∙ ap (λ rest. first ++ rest) more.nodes_are ∙ sym (append_assoc first (nodes_from middle more.tree) (drop end list)) in
    record {
      tree = split cell at less.tree more.tree;
      proves = (inside, low, high, less.proves, more.proves);
      nodes_are = first-node list place node (nodes.Split cell at (place + 1) middle) there is same
          ∙ ap (λ rest. nodes.Split cell at (place + 1) middle ∷ rest) behind
          ∙ ap (λ k. nodes.Split cell at (place + 1) k ∷ (first ++ nodes_from k more.tree) ++ drop end list) less.end_is;
      end_is = let lesser = less.end_is in let greater = more.end_is in omega (arith, lesser, greater);
    }

-- ---- the whole list

shown-tree : (p : Program) (floors caps : List ℕ) (list : List TreeNode) (end : ℕ) (shown : IsShown p floors caps list 0 end) → end ≡ length list
    → list ≡ nodes_from 0 shown.tree
shown-tree p floors caps list end shown all =
    shown.nodes_are ∙ ap (λ rest. nodes_from 0 shown.tree ++ rest) (drop_all end list (omega (arith, all))) ∙ append-nil (nodes_from 0 shown.tree)

pub shown-whole : (p : Program) (floors caps : List ℕ) (list : List TreeNode) (end : ℕ) → IsShown p floors caps list 0 end → end ≡ length list
    → IsInPreorder list × Proves p floors caps (tree_of list)
shown-whole p floors caps list end shown all =
    let list_is = shown-tree p floors caps list end shown all in
    let tree_is : tree_of list ≡ shown.tree = ap tree_of list_is ∙ tree_of-nodes shown.tree in
    (list_is ∙ ap (nodes_from 0) (sym tree_is), subst (Proves p floors caps) (sym tree_is) shown.proves)
