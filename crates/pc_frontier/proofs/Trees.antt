-- The tree of the nodes after a split, and after calls that split no node.
use Rattle.std.proofs.Common.{◌≡◌, ◌<◌, ◌≤◌, ℕ, ◌+◌, Bool, true, false, cond, eqb, List, [], ◌∷◌, ◌++◌, length, Some, None, refl, sym, ap, ◌∙◌, subst, arith, inl, inr, ◌⊎◌}
use Rattle.std.proofs.lemmas.Bool.{cond_both, eqb-true, eqb-false, ne_eqb, eq-eqb, cases_lt, cases_eq}
use Rattle.std.proofs.lemmas.List.{get_or_append_left, get_or_push, get_or_past, get_or-set_other, get_or-set_same, length-append, length-set}
use Rattle.pc_frontier.specs.declared.node.State.{State}
use Rattle.pc_frontier.specs.declared.node.State.TheVariants as states
use Rattle.pc_frontier.specs.declared.node.Born.{Born}
use Rattle.pc_frontier.specs.declared.node.Node.{Node}
use Rattle.pc_frontier.specs.Frontier.{Seen, IsInHand, no_node, node_at, born_of, set_state, with_split}
use Rattle.pc_frontier.specs.Boxes.{Grown, leaf, split, divided, root_of, size_of, leaves_at, HasLeaf, IsLeaf, IsLeafState, IsSplitAt, IsTree, AreGrown, AreOrdered, AreLeavesKept}

-- what a split makes of the nodes
pub record IsParted (before after : List Node) (n cell at : ℕ) : Type 0 where
  pub there : n < length before
  pub hand : (node_at before n).state ≡ states.InHand
  pub sized : length after ≡ length before + 2
  pub born : (i : ℕ) → i < length before → (node_at after i).born ≡ (node_at before i).born
  pub state : (i : ℕ) → i < length before → (i ≡ n → ⊥) → (node_at after i).state ≡ (node_at before i).state
  pub parted : (node_at after n).state ≡ states.Split (length before)
  pub first_born : (node_at after (length before)).born ≡ born_of n cell at false
  pub first_state : (node_at after (length before)).state ≡ states.InHand
  pub second_born : (node_at after (length before + 1)).born ≡ born_of n cell at true
  pub second_state : (node_at after (length before + 1)).state ≡ states.InHand
  pub none : (i : ℕ) → length before + 2 ≤ i → (node_at after i).born ≡ None

-- two items put at the end
module _ (xs : List Node) (y z : Node) where
  length-two : length ((xs ++ y ∷ []) ++ z ∷ []) ≡ length xs + 2
  length-two = simp length-append (omega arith)

  front : (i : ℕ) → i < length xs → node_at ((xs ++ y ∷ []) ++ z ∷ []) i ≡ node_at xs i
  front i h =
      let longer : i < length (xs ++ y ∷ []) = omega (arith, length-append xs (y ∷ [])) in
      get_or_append_left (xs ++ y ∷ []) (z ∷ []) no_node i longer ∙ get_or_append_left xs (y ∷ []) no_node i h

  middle : (i : ℕ) → length xs ≡ i → node_at ((xs ++ y ∷ []) ++ z ∷ []) i ≡ y
  middle i e =
      let longer : i < length (xs ++ y ∷ []) = omega (arith, length-append xs (y ∷ [])) in
      get_or_append_left (xs ++ y ∷ []) (z ∷ []) no_node i longer ∙ get_or_push xs y no_node i e

  end : (i : ℕ) → length xs + 1 ≡ i → node_at ((xs ++ y ∷ []) ++ z ∷ []) i ≡ z
  end i e = get_or_push (xs ++ y ∷ []) z no_node i (omega (arith, length-append xs (y ∷ [])))

  past : (i : ℕ) → length xs + 2 ≤ i → node_at ((xs ++ y ∷ []) ++ z ∷ []) i ≡ no_node
  past i h = get_or_past ((xs ++ y ∷ []) ++ z ∷ []) i no_node (omega (arith, length-two))

-- another state at a number
module _ (nodes : List Node) (n : ℕ) (state : State) (there : n < length nodes) where
  set_here : node_at (set_state nodes n state) n ≡ record (node_at nodes n) { state = state }
  set_here = get_or-set_same nodes n _ no_node there

  set_born : (i : ℕ) → (node_at (set_state nodes n state) i).born ≡ (node_at nodes i).born
  set_born i = elim (cases_eq i n) [
    | inl e ↦ rw e (ap (λ (x : Node). x.born) set_here)
    | inr ne ↦ ap (λ (x : Node). x.born) (get_or-set_other nodes n i _ no_node ne)
  ]

  set_other : (i : ℕ) → (i ≡ n → ⊥) → (node_at (set_state nodes n state) i).state ≡ (node_at nodes i).state
  set_other i ne = ap (λ (x : Node). x.state) (get_or-set_other nodes n i _ no_node ne)

pub split_parts : (f : Seen) (n cell at : ℕ) → IsInHand f n → IsParted f.nodes (with_split n cell at f).nodes n cell at
split_parts f n cell at hand =
    let size : length (set_state f.nodes n (states.Split (length f.nodes))) ≡ length f.nodes = length-set f.nodes n _ in
    record {
      there = hand.0;
      hand = hand.1;
      sized = length-two _ _ _ ∙ ap (λ k. k + 2) size;
      born = λ i h. ap (λ (x : Node). x.born) (front _ _ _ i (omega (arith, size))) ∙ set_born f.nodes n _ hand.0 i;
      state = λ i h ne. ap (λ (x : Node). x.state) (front _ _ _ i (omega (arith, size))) ∙ set_other f.nodes n _ hand.0 i ne;
      parted = ap (λ (x : Node). x.state) (front _ _ _ n (omega (arith, size, hand.0)) ∙ set_here f.nodes n _ hand.0);
      first_born = ap (λ (x : Node). x.born) (middle _ _ _ (length f.nodes) size);
      first_state = ap (λ (x : Node). x.state) (middle _ _ _ (length f.nodes) size);
      second_born = ap (λ (x : Node). x.born) (end _ _ _ (length f.nodes + 1) (omega (arith, size)));
      second_state = ap (λ (x : Node). x.state) (end _ _ _ (length f.nodes + 1) (omega (arith, size)));
      none = λ i h. ap (λ (x : Node). x.born) (past _ _ _ i (omega (arith, size)));
    }

-- ---- the tree after a split

grown_root : (nodes : List Node) (g : Grown) → AreGrown nodes g → root_of g < length nodes
grown_root nodes (leaf n) grown = grown.0
grown_root nodes (split n cell at t u) grown = grown.0

-- a number of no leaf
no_leaf_past : (nodes : List Node) (k : ℕ) (g : Grown) → AreGrown nodes g → length nodes ≤ k → leaves_at k g ≡ 0
no_leaf_past nodes k (leaf n) grown h = ap (λ b. cond b 1 0) (ne_eqb n k (λ e. absurd (omega (arith, grown.0))))
no_leaf_past nodes k (split n cell at t u) grown h =
    omega (arith, no_leaf_past nodes k t grown.6 h, no_leaf_past nodes k u grown.7 h)

has_leaf_counts : (k : ℕ) (g : Grown) → HasLeaf k g → 1 ≤ leaves_at k g
has_leaf_counts k (leaf n) e = rw e (rw (eq-eqb k k refl) (omega arith))
has_leaf_counts k (split n cell at t u) has =
    elim has [ inl l ↦ omega (arith, has_leaf_counts k t l) | inr r ↦ omega (arith, has_leaf_counts k u r) ]

few : (b : Bool) → cond b 1 0 ≤ 1
few true = omega arith
few false = omega arith

one_of_two : (a i : ℕ) → cond (eqb a i) 1 0 + cond (eqb (a + 1) i) 1 0 ≤ 1
one_of_two a i = elim (cases_eq a i) [
  | inl e ↦ rw (ne_eqb (a + 1) i (omega (arith, e))) (omega (arith, few (eqb a i)))
  | inr ne ↦ rw (ne_eqb a i ne) (omega (arith, few (eqb (a + 1) i)))
]

-- what made a node
pub parent_of : (b : Born) (parent cell at : ℕ) (more : Bool) → Some b ≡ born_of parent cell at more → b.parent ≡ parent
parent_of b parent cell at more e = cc

pub none_some : (b : Born) → None ≡ Some b → ⊥
none_some b e = cc

module _ (n cell at first : ℕ) where
  root_divided : (g : Grown) → root_of (divided n cell at first g) ≡ root_of g
  root_divided (leaf m) =
      cond_both (eqb m n) (split n cell at (leaf first) (leaf (first + 1))) (leaf m) (λ x. root_of x ≡ m) (λ e. sym (eqb-true m n e)) (λ e. refl)
  root_divided (split m c a t u) = refl

  size_divided : (g : Grown) → size_of (divided n cell at first g) ≡ size_of g + (leaves_at n g + leaves_at n g)
  size_divided (leaf m) = by (eqb m n)
    where
      by : (b : Bool) → size_of (cond b (split n cell at (leaf first) (leaf (first + 1))) (leaf m)) ≡ 1 + (cond b 1 0 + cond b 1 0)
      by true = refl
      by false = refl
  size_divided (split m c a t u) = omega (arith, size_divided t, size_divided u)

  leaf_divided : (i : ℕ) (g : Grown) → (i ≡ n → ⊥) → HasLeaf i g → HasLeaf i (divided n cell at first g)
  leaf_divided i (leaf m) ne e =
      cond_both (eqb m n) (split n cell at (leaf first) (leaf (first + 1))) (leaf m) (HasLeaf i) (λ same. absurd (ne (sym e ∙ eqb-true m n same))) (λ other. e)
  leaf_divided i (split m c a t u) ne has = elim has [ inl l ↦ inl (leaf_divided i t ne l) | inr r ↦ inr (leaf_divided i u ne r) ]

  first_divided : (g : Grown) → HasLeaf n g → HasLeaf first (divided n cell at first g)
  first_divided (leaf m) e =
      cond_both (eqb m n) (split n cell at (leaf first) (leaf (first + 1))) (leaf m) (HasLeaf first) (λ same. inl refl) (λ other. absurd (eqb-false m n other e))
  first_divided (split m c a t u) has = elim has [ inl l ↦ inl (first_divided t l) | inr r ↦ inr (first_divided u r) ]

  second_divided : (g : Grown) → HasLeaf n g → HasLeaf (first + 1) (divided n cell at first g)
  second_divided (leaf m) e =
      cond_both (eqb m n) (split n cell at (leaf first) (leaf (first + 1))) (leaf m) (HasLeaf (first + 1)) (λ same. inr refl) (λ other. absurd (eqb-false m n other e))
  second_divided (split m c a t u) has = elim has [ inl l ↦ inl (second_divided t l) | inr r ↦ inr (second_divided u r) ]

  -- old numbers have no more leaves than they had, and new ones as many as the divided number had, or fewer
  old_leaves : (i : ℕ) (g : Grown) → i < first → leaves_at i (divided n cell at first g) ≤ leaves_at i g
  old_leaves i (leaf m) h =
      cond_both (eqb m n) (split n cell at (leaf first) (leaf (first + 1))) (leaf m) (λ x. leaves_at i x ≤ leaves_at i (leaf m))
      (λ same. rw (ne_eqb first i (omega arith), ne_eqb (first + 1) i (omega arith)) (omega arith)) (λ other. omega arith)
  old_leaves i (split m c a t u) h = omega (arith, old_leaves i t h, old_leaves i u h)

  new_leaves : (nodes : List Node) (i : ℕ) (g : Grown) → AreGrown nodes g → length nodes ≤ i → leaves_at i (divided n cell at first g) ≤ leaves_at n g
  new_leaves nodes i (leaf m) grown h = by (eqb m n)
    where
      by : (b : Bool) → leaves_at i (cond b (split n cell at (leaf first) (leaf (first + 1))) (leaf m)) ≤ cond b 1 0
      by true = one_of_two first i
      by false = omega (arith, no_leaf_past nodes i (leaf m) grown h)
  new_leaves nodes i (split m c a t u) grown h = omega (arith, new_leaves nodes i t grown.6 h, new_leaves nodes i u grown.7 h)

module _ (before after : List Node) (n cell at : ℕ) (made : IsParted before after n cell at) where
  states_differ : (m k : ℕ) → IsSplitAt (node_at before m).state k → m ≡ n → ⊥
  states_differ m k is e = subst (λ s. IsSplitAt s k) (ap (λ i. (node_at before i).state) e ∙ made.hand) is

  ordered_after : AreOrdered before → AreOrdered after
  ordered_after ordered i b e = elim (cases_lt i (length before)) [
    | inl old ↦ ordered i b (sym (made.born i old) ∙ e)
    | inr new ↦ elim (cases_eq i (length before)) [
      | inl same ↦ first i b e same
      | inr other ↦ elim (cases_eq i (length before + 1)) [
        | inl same ↦ second i b e same
        | inr far ↦ nobody i b e (omega (arith, new, other, far))
      ]
    ]
  ]
    where
      first : (i : ℕ) (b : Born) → (node_at after i).born ≡ Some b → i ≡ length before → b.parent < i
      first i b e same =
          let p : b.parent ≡ n = parent_of b n cell at false (sym e ∙ (ap (λ k. (node_at after k).born) same ∙ made.first_born)) in
          omega (arith, made.there)

      second : (i : ℕ) (b : Born) → (node_at after i).born ≡ Some b → i ≡ length before + 1 → b.parent < i
      second i b e same =
          let p : b.parent ≡ n = parent_of b n cell at true (sym e ∙ (ap (λ k. (node_at after k).born) same ∙ made.second_born)) in
          omega (arith, made.there)

      nobody : (i : ℕ) (b : Born) → (node_at after i).born ≡ Some b → length before + 2 ≤ i → b.parent < i
      nobody i b e h = absurd (none_some b (sym (made.none i h) ∙ e))

  grown_after : (g : Grown) → AreGrown before g → AreGrown after (divided n cell at (length before) g)
  grown_after (leaf m) grown =
      cond_both (eqb m n) (split n cell at (leaf (length before)) (leaf (length before + 1))) (leaf m) (AreGrown after)
      (λ same. (
        omega (arith, made.there, made.sized),
        rw made.parted refl,
        refl,
        made.there,
        made.first_born,
        made.second_born,
        (omega (arith, made.sized), rw made.first_state tt),
        (omega (arith, made.sized), rw made.second_state tt),
      ))
      (λ other. (omega (arith, made.sized, grown.0), subst IsLeafState (sym (made.state m grown.0 (eqb-false m n other))) grown.1))
  grown_after (split m c a t u) grown =
      let below_t : root_of t < length before = grown_root before t grown.6 in
      let below_u : root_of u < length before = grown_root before u grown.7 in
      let root_t : root_of (divided n cell at (length before) t) ≡ root_of t = root_divided n cell at (length before) t in
      let root_u : root_of (divided n cell at (length before) u) ≡ root_of u = root_divided n cell at (length before) u in (
        omega (arith, made.sized, grown.0),
        rw (made.state m grown.0 (states_differ m _ grown.1), root_t) grown.1,
        rw (root_t, root_u) grown.2,
        rw root_t grown.3,
        ap (λ k. (node_at after k).born) root_t ∙ (made.born _ below_t ∙ grown.4),
        ap (λ k. (node_at after k).born) root_u ∙ (made.born _ below_u ∙ grown.5),
        grown_after t grown.6,
        grown_after u grown.7,
      )

  leaf_before : (i : ℕ) → i < length before → IsLeaf after i → (i ≡ n → ⊥) → IsLeaf before i
  leaf_before i old is ne = (old, subst IsLeafState (made.state i old ne) is.1)

  split_no_leaf : (i : ℕ) → IsLeaf after i → i ≡ n → ⊥
  split_no_leaf i is e = subst IsLeafState (ap (λ k. (node_at after k).state) e ∙ made.parted) is.1

  hand_is_leaf : IsLeaf before n
  hand_is_leaf = (made.there, subst IsLeafState (sym made.hand) tt)

  leaves_after : (g : Grown) → ((i : ℕ) → IsLeaf before i → HasLeaf i g) → (i : ℕ) → IsLeaf after i → HasLeaf i (divided n cell at (length before) g)
  leaves_after g has i is = elim (cases_lt i (length before)) [
    | inl old ↦ leaf_divided n cell at (length before) i g (split_no_leaf i is) (has i (leaf_before i old is (split_no_leaf i is)))
    | inr new ↦ elim (cases_eq i (length before)) [
      | inl same ↦ subst (λ k. HasLeaf k (divided n cell at (length before) g)) (sym same) (first_divided n cell at (length before) g (has n hand_is_leaf))
      | inr other ↦
          let same : i ≡ length before + 1 = omega (arith, is.0, made.sized, new, other) in
          subst (λ k. HasLeaf k (divided n cell at (length before) g)) (sym same) (second_divided n cell at (length before) g (has n hand_is_leaf))
    ]
  ]

  once_after : (g : Grown) → AreGrown before g → ((i : ℕ) → leaves_at i g ≤ 1) → (i : ℕ) → leaves_at i (divided n cell at (length before) g) ≤ 1
  once_after g grown once i = elim (cases_lt i (length before)) [
    | inl old ↦ omega (arith, old_leaves n cell at (length before) i g old, once i)
    | inr new ↦ omega (arith, new_leaves n cell at (length before) before i g grown new, once n)
  ]

  pub tree_after : (g : Grown) → IsTree before g → IsTree after (divided n cell at (length before) g)
  tree_after g tree = record {
    root = root_divided n cell at (length before) g ∙ tree.root;
    first = made.born 0 (omega (arith, made.there)) ∙ tree.first;
    ordered = ordered_after tree.ordered;
    grown = grown_after g tree.grown;
    size = omega (arith, size_divided n cell at (length before) g, has_leaf_counts n g (tree.leaves n hand_is_leaf), tree.once n, tree.size, made.sized);
    leaves = leaves_after g tree.leaves;
    once = once_after g tree.grown tree.once;
  }

pub splits_divide : (f : Seen) (g : Grown) (n cell at : ℕ) → IsInHand f n → IsTree f.nodes g → IsTree (with_split n cell at f).nodes (divided n cell at (length f.nodes) g)
splits_divide f g n cell at hand tree = tree_after f.nodes (with_split n cell at f).nodes n cell at (split_parts f n cell at hand) g tree

-- ---- the tree after calls that split no node

leaf_or_split : (s : State) → IsLeafState s ⊎ ((k : ℕ) × IsSplitAt s k)
leaf_or_split states.Closed = inl tt
leaf_or_split states.Open = inl tt
leaf_or_split states.InHand = inl tt
leaf_or_split (states.Split first) = inr (first, refl)

not_both : (s : State) (k : ℕ) → IsLeafState s → IsSplitAt s k → ⊥
not_both states.Closed k is at = at
not_both states.Open k is at = at
not_both states.InHand k is at = at
not_both (states.Split first) k is at = is

module _ (before after : List Node) (kept : AreLeavesKept before after) where
  grown_kept : (g : Grown) → AreGrown before g → AreGrown after g
  grown_kept (leaf n) grown = (omega (arith, grown.0, kept.sized), kept.leaves n grown.1)
  grown_kept (split n cell at t u) grown = (
    omega (arith, grown.0, kept.sized),
    kept.splits n _ grown.1,
    grown.2,
    grown.3,
    kept.born _ ∙ grown.4,
    kept.born _ ∙ grown.5,
    grown_kept t grown.6,
    grown_kept u grown.7,
  )

  leaf_was : (n : ℕ) → IsLeaf after n → IsLeaf before n
  leaf_was n is = elim (leaf_or_split (node_at before n).state) [
    | inl was ↦ (omega (arith, is.0, kept.sized), was)
    | inr parted ↦ absurd (not_both _ parted.0 is.1 (kept.splits n parted.0 parted.1))
  ]

  pub tree_kept : (g : Grown) → IsTree before g → IsTree after g
  tree_kept g tree = record {
    root = tree.root;
    first = kept.born 0 ∙ tree.first;
    ordered = λ n b e. tree.ordered n b (sym (kept.born n) ∙ e);
    grown = grown_kept g tree.grown;
    size = tree.size ∙ sym kept.sized;
    leaves = λ n is. tree.leaves n (leaf_was n is);
    once = tree.once;
  }

pub calls_keep_trees : (before after : List Node) (g : Grown) → AreLeavesKept before after → IsTree before g → IsTree after g
calls_keep_trees before after g kept tree = tree_kept before after kept g tree
