-- The two parts of a box, and the trees behind a split.
use Rattle.std.proofs.Common.{◌≡◌, ℕ, zero, suc, ◌+◌, ◌<◌, ◌≤◌, List, [], ◌∷◌, ◌++◌, length, refl, ap, ◌∙◌, sym, subst, arith, append_assoc, append-nil}
use Rattle.std.specs.Prelude.{slice_set}
use Rattle.std.proofs.lemmas.List.{length-set}
use Rattle.pc_model.specs.declared.tree.TreeNode.{TreeNode}
use Rattle.pc_program_bound.specs.declared.program.Program.{Program}
use Rattle.pc_program_bound.specs.Sums.{nat_at}
use Rattle.pc_program_bound.specs.Allocation.{IsProgram, IsBox}
use Rattle.pc_program_bound.specs.SplitTrees.{SplitTree, bound, void, split, size_of, nodes_from, trees_of, tree_of, IsInPreorder, less_caps, more_floors}
use Rattle.pc_program_bound.proofs.TreeNodes.{trees_of-nodes}
use Rattle.pc_program_bound.specs.Walk.{HaveParts}

-- ---- boxes

-- a number of a list of which one was replaced is the new one, or the one before
at_set : (P : ℕ → Type 0) (xs : List ℕ) (cell at i : ℕ) → (i ≡ cell → P at) → P (nat_at xs i) → P (nat_at (slice_set xs cell at) i)
at_set P [] cell at i new before = before
at_set P (x ∷ xs) zero at zero new before = new refl
at_set P (x ∷ xs) zero at (suc i) new before = before
at_set P (x ∷ xs) (suc cell) at zero new before = before
at_set P (x ∷ xs) (suc cell) at (suc i) new before = at_set P xs cell at i (λ e. new (ap suc e)) before

pub whole_box : (p : Program) → IsProgram p → IsBox p p.floor p.cap
whole_box p program = record {
  sized_floors = program.floors;
  sized_caps = program.caps;
  inside = λ i h. (omega arith, program.boxed i h, omega arith);
}

pub less_box : (p : Program) (floors caps : List ℕ) (cell at : ℕ) → IsBox p floors caps → nat_at floors cell ≤ at → at < nat_at caps cell
    → IsBox p floors (less_caps caps cell at)
less_box p floors caps cell at box low high = record {
  sized_floors = box.sized_floors;
  sized_caps = length-set caps cell at ∙ box.sized_caps;
  inside = λ i h. let here = box.inside i h in
      let ends = at_set (λ cap. (nat_at floors i ≤ cap) × (cap ≤ nat_at p.cap i)) caps cell at i
      (λ e. let more : at < nat_at caps i = rw e high in (rw e low, omega (arith, more, here))) (here.1, here.2) in
      (here.0, ends.0, ends.1);
}

pub more_box : (p : Program) (floors caps : List ℕ) (cell at : ℕ) → IsBox p floors caps → nat_at floors cell ≤ at → at < nat_at caps cell
    → IsBox p (more_floors floors cell at) caps
more_box p floors caps cell at box low high = record {
  sized_floors = length-set floors cell (at + 1) ∙ box.sized_floors;
  sized_caps = box.sized_caps;
  inside = λ i h. let here = box.inside i h in
      let ends = at_set (λ floor. (nat_at p.floor i ≤ floor) × (floor ≤ nat_at caps i)) floors cell (at + 1) i
      (λ e. let less : nat_at floors i ≤ at = rw e low in let more : at < nat_at caps i = rw e high in (omega (arith, less, here), omega (arith, more)))
      (here.0, here.1) in
      (ends.0, ends.1, here.2);
}

-- ---- nodes in preorder

parts-nodes : (t : SplitTree) (number : ℕ) (rest : List TreeNode) → HaveParts rest → HaveParts (nodes_from number t ++ rest)
parts-nodes (bound m) number rest have = have
parts-nodes (void m) number rest have = have
parts-nodes (split cell at t u) number rest have =
    let first = nodes_from (number + 1) t in
    let second = nodes_from (number + 1 + size_of t) u in
    let trees : trees_of (first ++ (second ++ rest)) ≡ t ∷ u ∷ trees_of rest
    = trees_of-nodes t (number + 1) (second ++ rest) ∙ ap (λ ts. t ∷ ts) (trees_of-nodes u (number + 1 + size_of t) rest) in
    let two : 2 ≤ length (trees_of (first ++ (second ++ rest))) = rw trees (omega arith) in
    let behind = parts-nodes t (number + 1) (second ++ rest) (parts-nodes u (number + 1 + size_of t) rest have) in
    let same = append_assoc first second rest in
    (subst (λ list. 2 ≤ length (trees_of list)) (sym same) two, subst HaveParts (sym same) behind)

pub preorder-parts : (list : List TreeNode) → IsInPreorder list → HaveParts list
preorder-parts list preorder =
    subst HaveParts (append-nil (nodes_from 0 (tree_of list)) ∙ sym preorder) (parts-nodes (tree_of list) 0 [] tt)

-- they spell one tree
pub preorder-tree : (list : List TreeNode) → IsInPreorder list → trees_of list ≡ tree_of list ∷ []
preorder-tree list preorder =
    ap trees_of (preorder ∙ sym (append-nil (nodes_from 0 (tree_of list)))) ∙ trees_of-nodes (tree_of list) 0 []
