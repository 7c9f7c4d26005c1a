-- A leaf is cut: what stands at each number afterwards, and that the nodes are those of a tree again.
use Rattle.std.proofs.Common.{◌≡◌, ◌≢◌, ℕ, ◌+◌, ◌<◌, inl, inr, true, List, [], ◌∷◌, ◌++◌, length, get_or, set, refl, sym, ◌∙◌, ap, subst, true≢false, arith}
use Rattle.std.proofs.lemmas.Bool.{cases_lt, cases_eq}
use Rattle.std.proofs.lemmas.List.{get_or_append_left, get_or-append-add, get_or-set_same, get_or-set_other, length-append, length-set}
use Rattle.pc_model.specs.declared.region.Region.{Region}
use Rattle.pc_model.specs.declared.tree.Cut.{Cut}
use Rattle.pc_model.specs.declared.tree.LeafMark.TheVariants.{Barren}
use Rattle.pc_model.specs.declared.tree.CutNode.{CutNode}
use Rattle.pc_model.specs.declared.tree.CutNode.TheVariants as forms
use Rattle.pc_model.specs.CutTrees.{IsProper, first_part, second_part}
use Rattle.pc_cells_tree.specs.Linked.{node_at, box_at, IsCutInto, IsNodeAt, IsParentOf, AreBoxesOf, is_leaf_node}
use Rattle.pc_cells_tree.specs.Refining.{nodes_cut, boxes_cut}

-- the part of a list that is appended, by its place there
behind : {X : Type 0} → (xs ys : List X) (i n : ℕ) (d : X) → length xs ≡ n → get_or (xs ++ ys) (n + i) d ≡ get_or ys i d
behind xs ys i n d e = rw (sym e) (get_or-append-add xs ys i d)

at_end : {X : Type 0} → (xs ys : List X) (n : ℕ) (d : X) → length xs ≡ n → get_or (xs ++ ys) n d ≡ get_or ys 0 d
at_end xs ys n d e = let there : n ≡ n + 0 = omega arith in ap (λ k. get_or (xs ++ ys) k d) there ∙ behind xs ys 0 n d e

-- ---- whether a node is a leaf

leaf_is : (node : CutNode) (k : ℕ) → is_leaf_node node ≡ true → IsParentOf k node → ⊥
leaf_is (forms.Leaf mark) k leaf parent = parent
leaf_is (forms.Inner cut first second) k leaf parent = true≢false (sym leaf)

module _ (nodes : List CutNode) (boxes : List Region) (place : ℕ) (cut : Cut) (there : place < length nodes) (long : length boxes ≡ length nodes) where
  abbrev after : List CutNode
  after = nodes_cut nodes place cut

  abbrev boxes_after : List Region
  boxes_after = boxes_cut boxes place cut

  abbrev new : CutNode
  new = forms.Inner cut (length nodes) (length nodes + 1)

  set_long : length (set nodes place new) ≡ length nodes
  set_long = length-set nodes place new

  pub nodes_long : length after ≡ length nodes + 2
  nodes_long = omega (arith, length-append (set nodes place new) (forms.Leaf Barren ∷ forms.Leaf Barren ∷ []), set_long)

  pub boxes_long : length boxes_after ≡ length nodes + 2
  boxes_long = omega (arith, length-append boxes (first_part (box_at boxes place) cut ∷ second_part (box_at boxes place) cut ∷ []), long)

  -- ---- by number

  pub cut_node : node_at after place ≡ new
  cut_node = get_or_append_left (set nodes place new) _ _ place (omega (arith, set_long, there)) ∙ get_or-set_same nodes place new _ there

  pub old_node : (k : ℕ) → k < length nodes → k ≢ place → node_at after k ≡ node_at nodes k
  old_node k old other = get_or_append_left (set nodes place new) _ _ k (omega (arith, set_long, old)) ∙ get_or-set_other nodes place k new _ other

  pub first_node : node_at after (length nodes) ≡ forms.Leaf Barren
  first_node = at_end (set nodes place new) (forms.Leaf Barren ∷ forms.Leaf Barren ∷ []) (length nodes) (forms.Leaf Barren) set_long

  pub second_node : node_at after (length nodes + 1) ≡ forms.Leaf Barren
  second_node = behind (set nodes place new) (forms.Leaf Barren ∷ forms.Leaf Barren ∷ []) 1 (length nodes) (forms.Leaf Barren) set_long

  pub old_box : (k : ℕ) → k < length nodes → box_at boxes_after k ≡ box_at boxes k
  old_box k old = get_or_append_left boxes _ _ k (omega (arith, long, old))

  pub first_box : box_at boxes_after (length nodes) ≡ first_part (box_at boxes place) cut
  first_box = at_end boxes (first_part (box_at boxes place) cut ∷ second_part (box_at boxes place) cut ∷ []) (length nodes) (record { sides = [] }) long

  pub second_box : box_at boxes_after (length nodes + 1) ≡ second_part (box_at boxes place) cut
  second_box = behind boxes (first_part (box_at boxes place) cut ∷ second_part (box_at boxes place) cut ∷ []) 1 (length nodes) (record { sides = [] }) long

  -- what holds of the node that was cut, of each other old one and of the two new ones holds of all
  pub each_number : (P : ℕ → Type 0) → P place → ((k : ℕ) → k < length nodes → k ≢ place → P k) → P (length nodes) → P (length nodes + 1) → (k : ℕ) → k < length after → P k
  each_number P here old first second k inside = elim (cases_lt k (length nodes)) [
    | inl less ↦ elim (cases_eq k place) [ inl same ↦ subst P (sym same) here | inr other ↦ old k less other ]
    | inr more ↦
        elim (cases_eq k (length nodes)) [
          | inl same ↦ subst P (sym same) first
          | inr other ↦ (let last : k ≡ length nodes + 1 = omega (arith, nodes_long, inside, more, other) in subst P (sym last) second)
        ]
  ]

  -- ---- a tree again

  node_kept : (k : ℕ) (node : CutNode) → k < length nodes → IsNodeAt boxes k node → IsNodeAt boxes_after k node
  node_kept k (forms.Leaf mark) old is = is
  node_kept k (forms.Inner at first second) old is = record {
    proper = subst (λ box. IsProper box at) (sym (old_box k old)) is.proper;
    first_later = is.first_later;
    first_there = omega (arith, is.first_there, boxes_long, long);
    first_is = rw (old_box first (omega (arith, is.first_there, long)), old_box k old) is.first_is;
    second_later = is.second_later;
    second_there = omega (arith, is.second_there, boxes_long, long);
    second_is = rw (old_box second (omega (arith, is.second_there, long)), old_box k old) is.second_is;
  }

  module _ (whole : Region) (tree : AreBoxesOf whole nodes boxes) (leaf : is_leaf_node (node_at nodes place) ≡ true) (proper : IsProper (box_at boxes place) cut) where
    cut_into : IsCutInto boxes_after place cut (length nodes) (length nodes + 1)
    cut_into = record {
      proper = subst (λ box. IsProper box cut) (sym (old_box place there)) proper;
      first_later = there;
      first_there = omega (arith, boxes_long);
      first_is = rw (first_box, old_box place there) refl;
      second_later = omega (arith, there);
      second_there = omega (arith, boxes_long);
      second_is = rw (second_box, old_box place there) refl;
    }

    abbrev HasParent : ℕ → Type 0
    HasParent k = 0 < k → (parent : ℕ) × (parent < k) × IsParentOf k (node_at after parent)

    old_parent : (k : ℕ) → k < length nodes → HasParent k
    old_parent k old some =
        let found = tree.reached k some old in
        let other : found.0 ≢ place = λ same. leaf_is (node_at nodes place) k leaf (subst (λ i. IsParentOf k (node_at nodes i)) same found.2) in
        (found.0, found.1, subst (IsParentOf k) (sym (old_node found.0 (omega (arith, found.1, old)) other)) found.2)

    pub tree_again : AreBoxesOf whole after boxes_after
    tree_again = record {
      some = omega (arith, nodes_long);
      long = omega (arith, nodes_long, boxes_long);
      root = old_box 0 tree.some ∙ tree.root;
      each =
          each_number (λ k. IsNodeAt boxes_after k (node_at after k)) (subst (IsNodeAt boxes_after place) (sym cut_node) cut_into)
          (λ k old other. subst (IsNodeAt boxes_after k) (sym (old_node k old other)) (node_kept k (node_at nodes k) old (tree.each k old)))
          (subst (IsNodeAt boxes_after (length nodes)) (sym first_node) refl) (subst (IsNodeAt boxes_after (length nodes + 1)) (sym second_node) refl);
      reached = λ k some inside.
          each_number HasParent (old_parent place there) (λ k old other. old_parent k old)
          (λ some. (place, there, subst (IsParentOf (length nodes)) (sym cut_node) (inl refl)))
          (λ some. (place, omega (arith, there), subst (IsParentOf (length nodes + 1)) (sym cut_node) (inr refl))) k inside some;
    }
