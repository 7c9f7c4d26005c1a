-- What a number for each box comes to over the leaves of a list of nodes.
use Rattle.std.proofs.Common.{◌≡◌, ℕ, suc, ◌+◌, ◌*◌, ◌<◌, ◌≤◌, true, List, [], ◌∷◌, ◌++◌, length, drop, set, All, refl, sym, true≢false, arith}
use Rattle.std.proofs.Math.Nat.{mul-suc}
use Rattle.std.proofs.lemmas.List.{drop_more, drop-append-le, drop-set-lt, length-drop, length-set}
use Rattle.pc_model.proofs.Tallies.{count_by-cons}
use Rattle.pc_model.specs.declared.region.Region.{Region}
use Rattle.pc_model.specs.declared.tree.Cut.{Cut}
use Rattle.pc_model.specs.declared.tree.LeafMark.TheVariants.{Barren}
use Rattle.pc_model.specs.declared.tree.CutNode.{CutNode}
use Rattle.pc_model.specs.declared.tree.CutNode.TheVariants as forms
use Rattle.pc_model.specs.CutTrees.{first_part, second_part}
use Rattle.pc_cells_tree.specs.Linked.{node_at, box_at, is_leaf_node, leaf_count}
use Rattle.pc_cells_tree.specs.Refining.{due, leaf_sum, nodes_cut, boxes_cut}

module _ (need : Region → ℕ) where
  leaf_sum-append : (xs ys : List CutNode) (boxes others : List Region) → length boxes ≡ length xs → leaf_sum need (xs ++ ys) (boxes ++ others) ≡ leaf_sum need xs boxes + leaf_sum need ys others
  leaf_sum-append [] ys [] others long = omega arith
  leaf_sum-append [] ys (box ∷ boxes) others long = absurd (omega (arith, long))
  leaf_sum-append (x ∷ xs) ys [] others long = absurd (omega (arith, long))
  leaf_sum-append (x ∷ xs) ys (box ∷ boxes) others long = let later = leaf_sum-append xs ys boxes others (omega (arith, long)) in omega (arith, later)

  pub leaf_sum-more : (nodes : List CutNode) (boxes : List Region) (i : ℕ) → i < length nodes → length boxes ≡ length nodes →
      leaf_sum need (drop i nodes) (drop i boxes) ≡ due need (node_at nodes i) (box_at boxes i) + leaf_sum need (drop (i + 1) nodes) (drop (i + 1) boxes)
  leaf_sum-more nodes boxes i inside long = rw (drop_more nodes i (forms.Leaf Barren) inside, drop_more boxes i (record { sides = [] }) (omega (arith, inside, long))) refl

  pub due_leaf : (node : CutNode) (box : Region) → is_leaf_node node ≡ true → due need node box ≡ need box
  due_leaf (forms.Leaf mark) box leaf = refl
  due_leaf (forms.Inner cut first second) box leaf = absurd (true≢false (sym leaf))

  -- the leaves behind a cut are those behind the leaf, and its two parts
  pub leaf_sum-cut : (nodes : List CutNode) (boxes : List Region) (place : ℕ) (cut : Cut) → place < length nodes → length boxes ≡ length nodes →
      leaf_sum need (drop (place + 1) (nodes_cut nodes place cut)) (drop (place + 1) (boxes_cut boxes place cut)) ≡
      leaf_sum need (drop (place + 1) nodes) (drop (place + 1) boxes) + (need (first_part (box_at boxes place) cut) + (need (second_part (box_at boxes place) cut) + 0))
  leaf_sum-cut nodes boxes place cut there long =
      let new = forms.Inner cut (length nodes) (length nodes + 1) in
      let leaves = forms.Leaf Barren ∷ forms.Leaf Barren ∷ [] in
      let parts = first_part (box_at boxes place) cut ∷ second_part (box_at boxes place) cut ∷ [] in
      let size = length-set nodes place new in
      let nodes_left = drop-append-le (place + 1) (set nodes place new) leaves (omega (arith, there, size)) in
      let boxes_left = drop-append-le (place + 1) boxes parts (omega (arith, there, long)) in
      let same = drop-set-lt (place + 1) nodes place new (omega arith) in
      rw (nodes_left, boxes_left, same)
      (leaf_sum-append (drop (place + 1) nodes) leaves (drop (place + 1) boxes) parts (omega (arith, length-drop (place + 1) nodes, length-drop (place + 1) boxes, long)))

  -- so much for each leaf, if it is at most so much for each box
  pub leaf_sum-most : (most : ℕ) (nodes : List CutNode) (boxes : List Region) → All (λ box. need box ≤ most) boxes → leaf_sum need nodes boxes ≤ most * leaf_count nodes
  leaf_sum-most most [] boxes each = omega arith
  leaf_sum-most most (node ∷ nodes) [] each = omega arith
  leaf_sum-most most (forms.Leaf mark ∷ nodes) (box ∷ boxes) each =
      let later = leaf_sum-most most nodes boxes (λ k d inside. each (suc k) d (omega (arith, inside))) in
      let here : need box ≤ most = each 0 box (omega arith) in
      let count : leaf_count (forms.Leaf mark ∷ nodes) ≡ suc (leaf_count nodes) = omega (arith, count_by-cons is_leaf_node (forms.Leaf mark) nodes) in
      rw count (omega (arith, later, here, mul-suc most (leaf_count nodes)))
  leaf_sum-most most (forms.Inner cut first second ∷ nodes) (box ∷ boxes) each =
      let later = leaf_sum-most most nodes boxes (λ k d inside. each (suc k) d (omega (arith, inside))) in
      let count : leaf_count (forms.Inner cut first second ∷ nodes) ≡ leaf_count nodes = omega (arith, count_by-cons is_leaf_node (forms.Inner cut first second) nodes) in
      rw count (omega (arith, later))
