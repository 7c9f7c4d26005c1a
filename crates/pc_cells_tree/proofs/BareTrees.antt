-- What is linked to a number has one tree, but for the marks.
use Rattle.std.proofs.Common.{◌≡◌, ℕ, List, true, true≢false, refl, sym, ◌∙◌, subst}
use Rattle.pc_model.specs.declared.tree.Cut.{Cut}
use Rattle.pc_model.specs.declared.tree.CutNode.{CutNode}
use Rattle.pc_model.specs.declared.tree.CutNode.TheVariants as forms
use Rattle.pc_model.specs.CutTrees.{CutShape, leaf, inner}
use Rattle.pc_cells_tree.specs.Linked.{is_leaf_node}
use Rattle.pc_cells_tree.specs.Walking.{HasCutsAt, bare}

same_inner : (c d : Cut) (i j k l : ℕ) → forms.Inner c i j ≡ forms.Inner d k l → (c ≡ d) × (i ≡ k) × (j ≡ l)
same_inner c d i j k l e = let cuts : c ≡ d = cc in let firsts : i ≡ k = cc in let seconds : j ≡ l = cc in (cuts, firsts, seconds)

same_trees : (nodes : List CutNode) (t u : CutShape) (k : ℕ) → HasCutsAt nodes k t → HasCutsAt nodes k u → bare t ≡ bare u
same_trees nodes (leaf m) (leaf n) k p q = refl
same_trees nodes (leaf m) (inner d v w) k p q = absurd (true≢false (sym (subst (λ node. is_leaf_node node ≡ true) q.2 p)))
same_trees nodes (inner c t u) (leaf n) k p q = absurd (true≢false (sym (subst (λ node. is_leaf_node node ≡ true) p.2 q)))
same_trees nodes (inner c t u) (inner d v w) k p q =
    let e = same_inner c d p.0 p.1 q.0 q.1 (sym p.2 ∙ q.2) in
    let first = same_trees nodes t v p.0 p.3 (subst (λ i. HasCutsAt nodes i v) (sym e.1) q.3) in
    let second = same_trees nodes u w p.1 p.4 (subst (λ i. HasCutsAt nodes i w) (sym e.2) q.4) in
    rw (e.0, first, second) refl

pub same_bare : (nodes : List CutNode) (k : ℕ) (t u : CutShape) → HasCutsAt nodes k t → HasCutsAt nodes k u → bare t ≡ bare u
same_bare nodes k t u p q = same_trees nodes t u k p q
