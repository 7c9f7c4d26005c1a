-- A tree of void leaves shows that there is no list, whatever the cells gain.
use Rattle.std.proofs.Common.{◌≡◌, ℕ, ℤ, List, map, Option, Some, None, refl, sym}
use Rattle.std.proofs.lemmas.Option.{none-some}
use Rattle.pc_model.specs.declared.constraint.Constraint.{Constraint}
use Rattle.pc_model.specs.declared.tree.Tree.{Tree}
use Rattle.pc_model.specs.Cells.{Class}
use Rattle.pc_program_bound.specs.declared.program.Program.{Program}
use Rattle.pc_program_bound.specs.CellPrograms.{program_with}
use Rattle.pc_program_bound.specs.SplitTrees.{SplitTree, bound, void, split, less_caps, more_floors, greater, bound_by, Proves, tree_of}
use Rattle.pc_program_bound.specs.Bound.{bound_of}
use Rattle.pc_branch_licences.proofs.NodeCounts.{few_nodes}
use Rattle.pc_proof.specs.Setting.{Setting, cells, program_for}
use Rattle.pc_proof.specs.Table.{none, ShowsNone}
use Rattle.pc_agg_search.specs.Fitting.{IsVoidTree}
use Rattle.pc_agg_search.specs.Limits.{IsEmpty}

neither : (a b : Option ℤ) → greater a b ≡ None → (a ≡ None) × (b ≡ None)
neither None b e = (refl, e)
neither (Some x) None e = absurd (none-some x (sym e))
neither (Some x) (Some y) e = absurd (none-some _ (sym e))

module _ (constraints : List Constraint) (classes : List Class) (gains others : List ℤ) where
  abbrev p : Program
  p = program_with constraints classes gains

  abbrev q : Program
  q = program_with constraints classes others

  pub other_gains : (floors caps : List ℕ) (t : SplitTree) → Proves p floors caps t → bound_by p floors caps t ≡ None → Proves q floors caps t × (bound_by q floors caps t ≡ None)
  other_gains floors caps (bound m) proves none_is = absurd (none-some (bound_of p floors caps m) (sym none_is))
  other_gains floors caps (void m) proves none_is = (record { by = proves.by; whole = proves.whole; below = proves.below }, refl)
  other_gains floors caps (split cell at t u) proves none_is =
      let parts = neither (bound_by p floors (less_caps caps cell at) t) (bound_by p (more_floors floors cell at) caps u) none_is in
      let less = other_gains floors (less_caps caps cell at) t proves.3 parts.0 in
      let more = other_gains (more_floors floors cell at) caps u proves.4 parts.1 in
      ((proves.0, proves.1, proves.2, less.0, more.0), rw (less.1, more.1) refl)

shows_none : (s : Setting) (gains : List ℤ) (budget : ℕ) (tree : Tree) → IsEmpty (program_with s.question.constraints (cells s) gains) budget tree → ShowsNone (program_for s none) tree
shows_none s gains budget tree empty =
    let p = program_with s.question.constraints (cells s) gains in
    let shown = other_gains s.question.constraints (cells s) gains (map none (cells s)) p.floor p.cap (tree_of tree.nodes) empty.proves empty.none in
    record { sound = record { proves = shown.0; small = rw shown.1 tt }; none = rw shown.1 refl }

pub void_tree : (s : Setting) (gains : List ℤ) (budget : ℕ) (tree : Tree) → IsEmpty (program_with s.question.constraints (cells s) gains) budget tree → IsVoidTree s budget tree
void_tree s gains budget tree empty = record {
  shows = shows_none s gains budget tree empty;
  small = record {
    fits = record { preorder = empty.preorder; leaves = empty.fits };
    few = few_nodes (program_with s.question.constraints (cells s) gains) budget None tree empty.preorder empty.search;
  };
}
