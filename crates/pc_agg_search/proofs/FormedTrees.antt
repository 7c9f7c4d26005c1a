-- A tree that shows what it says, and whose numbers fit, is in form.
use Rattle.std.proofs.Common.{ℕ, ◌+◌, ◌<◌, ◌^◌, List, [], ◌++◌, All, sym, subst, arith}
use Rattle.std.proofs.lemmas.List.Elements.{All-nil, All-cons, All-append}
use Rattle.pc_model.specs.declared.tree.Tree.{Tree}
use Rattle.pc_model.specs.declared.tree.TreeNode.TheVariants as nodes
use Rattle.pc_program_bound.specs.declared.program.Program.{Program}
use Rattle.pc_program_bound.specs.Allocation.{IsProgram, IsBox, cells_of}
use Rattle.pc_program_bound.specs.SplitTrees.{SplitTree, bound, void, split, size_of, nodes_from, less_caps, more_floors, Proves, tree_of}
use Rattle.pc_program_bound.proofs.WalkParts.{whole_box, less_box, more_box}
use Rattle.pc_branch.specs.Outcome.{AreFitLeaves}
use Rattle.pc_proof.specs.Form.{IsFormedNode, IsFormedTree}
use Rattle.pc_agg_search.specs.Fitting.{IsFitTree}

module _ (p : Program) (program : IsProgram p) (few : cells_of p < 2 ^ 32) where
  formed_from : (k : ℕ) (floors caps : List ℕ) (t : SplitTree) → IsBox p floors caps → Proves p floors caps t → AreFitLeaves t → All IsFormedNode (nodes_from k t)
  formed_from k floors caps (bound m) box proves fits = All-cons IsFormedNode (nodes.Bound m) [] (proves.positive, fits.1, fits.0) (All-nil IsFormedNode)
  formed_from k floors caps (void m) box proves fits = All-cons IsFormedNode (nodes.Void m) [] (proves.whole, fits.0) (All-nil IsFormedNode)
  formed_from k floors caps (split cell at t u) box proves fits =
      let here = box.inside cell proves.0 in
      let cap = program.small_cap cell proves.0 in
      let first = formed_from (k + 1) floors (less_caps caps cell at) t (less_box p floors caps cell at box proves.1 proves.2) proves.3 fits.0 in
      let second = formed_from (k + 1 + size_of t) (more_floors floors cell at) caps u (more_box p floors caps cell at box proves.1 proves.2) proves.4 fits.1 in
      All-cons IsFormedNode (nodes.Split cell at (k + 1) (k + 1 + size_of t)) (nodes_from (k + 1) t ++ nodes_from (k + 1 + size_of t) u)
      (omega (arith, proves.0, few), omega (arith, proves.2, here.2, cap))
      (All-append IsFormedNode (nodes_from (k + 1) t) (nodes_from (k + 1 + size_of t) u) first second)

  pub formed_tree : (t : Tree) → Proves p p.floor p.cap (tree_of t.nodes) → IsFitTree t → IsFormedTree t
  formed_tree t proves fit = record {
    preorder = fit.preorder;
    nodes = subst (All IsFormedNode) (sym fit.preorder) (formed_from 0 p.floor p.cap (tree_of t.nodes) (whole_box p program) proves fit.leaves);
  }
