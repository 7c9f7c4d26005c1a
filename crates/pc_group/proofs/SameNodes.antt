-- Lists of nodes that `==` finds to be the same are the same.
use Rattle.std.proofs.Common.{◌≡◌, ℕ, ◌==◌, ◌&&◌, Bool, true, false, List, refl, sym, subst, true≢false, int_eq}
use Rattle.std.specs.Bool.{Decides}
use Rattle.std.specs.Cmp.Lexicographic.{pointwise}
use Rattle.std.proofs.lemmas.Bool.{and_parts, and_from, eqb-true, eq-eqb}
use Rattle.std.proofs.lemmas.Bool.Decides.{Decides-int_eq}
use Rattle.std.proofs.lemmas.Slice.Eq.{slice_eq-Decides}
use Rattle.pc_model.specs.declared.tree.Cut.{Cut}
use Rattle.pc_model.specs.declared.tree.Cut.TheVariants.{At, Among}
use Rattle.pc_model.specs.declared.tree.CutNode.{CutNode}
use Rattle.pc_model.specs.declared.tree.CutNode.TheVariants.{Leaf, Inner}
use Rattle.pc_model.specs.declared.tree.LeafMark.{LeafMark}
use Rattle.pc_model.specs.declared.tree.LeafMark.TheVariants.{Barren, Class}
use Rattle.pc_model.specs.contracts.tree.CutPartialEq.TheImpl as cut_eq
use Rattle.pc_model.specs.contracts.tree.LeafMarkPartialEq.TheImpl as mark_eq
use Rattle.pc_model.specs.contracts.tree.CutNodePartialEq.TheImpl as node_eq

same_numbers : (n : ℕ) → (n == n) ≡ true
same_numbers n = eq-eqb n n refl

same_cuts : (a b : Cut) → cut_eq.eq-value.it a b ≡ true → a ≡ b
same_cuts (At c at) (At d at') h = let parts = and_parts (c == d) (int_eq at at') h in rw (eqb-true c d parts.0, (Decides-int_eq at at').0 parts.1) refl
same_cuts (At c at) (Among d bits) h = absurd (true≢false (sym h))
same_cuts (Among c bits) (At d at) h = absurd (true≢false (sym h))
same_cuts (Among c bits) (Among d bits') h = let parts = and_parts (c == d) (bits == bits') h in rw (eqb-true c d parts.0, eqb-true bits bits' parts.1) refl

cut_itself : (a : Cut) → cut_eq.eq-value.it a a ≡ true
cut_itself (At c at) = and_from (c == c) (int_eq at at) (same_numbers c) ((Decides-int_eq at at).1 refl)
cut_itself (Among c bits) = and_from (c == c) (bits == bits) (same_numbers c) (same_numbers bits)

same_marks : (a b : LeafMark) → mark_eq.eq-value.it a b ≡ true → a ≡ b
same_marks Barren Barren h = refl
same_marks Barren (Class n chosen) h = absurd (true≢false (sym h))
same_marks (Class m chosen) Barren h = absurd (true≢false (sym h))
same_marks (Class m true) (Class n true) h = rw (eqb-true m n (and_parts (m == n) true h).0) refl
same_marks (Class m true) (Class n false) h = absurd (true≢false (sym (and_parts (m == n) false h).1))
same_marks (Class m false) (Class n true) h = absurd (true≢false (sym (and_parts (m == n) false h).1))
same_marks (Class m false) (Class n false) h = rw (eqb-true m n (and_parts (m == n) true h).0) refl

mark_itself : (a : LeafMark) → mark_eq.eq-value.it a a ≡ true
mark_itself Barren = refl
mark_itself (Class m true) = and_from (m == m) true (same_numbers m) refl
mark_itself (Class m false) = and_from (m == m) true (same_numbers m) refl

same_node : (a b : CutNode) → node_eq.eq-value.it a b ≡ true → a ≡ b
same_node (Inner c i j) (Inner d k l) h =
    let parts = and_parts (cut_eq.eq-value.it c d) ((i == k) && (j == l)) h in
    let places = and_parts (i == k) (j == l) parts.1 in
    rw (same_cuts c d parts.0, eqb-true i k places.0, eqb-true j l places.1) refl
same_node (Inner c i j) (Leaf mark) h = absurd (true≢false (sym h))
same_node (Leaf mark) (Inner d k l) h = absurd (true≢false (sym h))
same_node (Leaf mark) (Leaf other) h = rw (same_marks mark other h) refl

node_itself : (a : CutNode) → node_eq.eq-value.it a a ≡ true
node_itself (Inner c i j) = and_from (cut_eq.eq-value.it c c) ((i == i) && (j == j)) (cut_itself c) (and_from (i == i) (j == j) (same_numbers i) (same_numbers j))
node_itself (Leaf mark) = mark_itself mark

one_decides : (a b : CutNode) → Decides (node_eq.eq-value.it a b) (a ≡ b)
one_decides a b = (same_node a b, λ e. subst (λ (node : CutNode). node_eq.eq-value.it a node ≡ true) e (node_itself a))

pub same_nodes : (xs ys : List CutNode) (r : Bool) → r ≡ pointwise node_eq.eq-value.it xs ys → Decides r (xs ≡ ys)
same_nodes xs ys r e = slice_eq-Decides one_decides xs ys r e
