-- A search with one node in hand, and the search once that node was split.
use Rattle.std.proofs.Common.{◌≡◌, ◌<◌, ℕ, ◌+◌, List, [], ◌∷◌, length, Option, Some, None, sym, ap, ◌∙◌, subst, inl, inr, ◌⊎◌, arith}
use Rattle.std.specs.Prelude.{ℤ, ◌≤ℤ◌}
use Rattle.std.proofs.lemmas.Int.{ints}
use Rattle.std.proofs.lemmas.Bool.{cases_lt, cases_eq}
use Rattle.pc_program_bound.specs.declared.program.Program.{Program}
use Rattle.pc_program_bound.specs.Allocation.{IsProgram}
use Rattle.pc_program_bound.specs.SplitTrees.{less_caps, more_floors}
use Rattle.pc_frontier.specs.declared.node.State.{State}
use Rattle.pc_frontier.specs.declared.node.State.TheVariants as states
use Rattle.pc_frontier.specs.declared.node.Node.{Node}
use Rattle.pc_frontier.specs.Rings.{In}
use Rattle.pc_frontier.specs.Frontier.{node_at}
use Rattle.pc_frontier.specs.Boxes.{Box, IsLeaf, IsLeafState}
use Rattle.pc_branch.specs.declared.visited.Known.{Known}
use Rattle.pc_branch.specs.declared.visited.Known.TheVariants as knowns
use Rattle.pc_branch.specs.declared.visited.Visited.{Visited}
use Rattle.pc_branch.specs.Grown.{visited_at, value_of, IsVisited, IsParted, IsStuckKnown}
use Rattle.pc_branch.specs.Searching.{IsAtMost, StandsAs, IsHeldAs, IsLeafKept, IsSplit, IsSplitState, IsHaltedAt, IsHalted}
use Rattle.pc_branch.proofs.Parts.{bound-own_less, bound-own_more}
use Rattle.pc_branch.proofs.Parting.{IsPartedPlace}
use Rattle.pc_branch.proofs.Offers.{IsBetter, most_by, leaf_more}
use Rattle.pc_branch.proofs.Growing.{AreSplit, AreVisited}

-- ---- the values of the parts

module _ (p : Program) (box : Box) (v : Visited) (cell at : ℕ) (level : ℤ) (program : IsProgram p) (place : IsPartedPlace p box v cell at) (is : v.bound ≡ level) where
  pub less_most : (w : Visited) → IsVisited p v.mult v.bound box.floors (less_caps box.caps cell at) w → IsAtMost (value_of w) level
  less_most w says =
      most_by p v.mult v.bound level box.floors (less_caps box.caps cell at) w.known w.mult w.bound says.known is
      (λ point relaxed.
      let under = bound-own_less p box.floors box.caps cell at v.mult w.mult point program place.by place.is_box place.low place.high relaxed in
      let whole = place.bound_is in
      omega (arith, ints, under, whole, is))

  pub more_most : (w : Visited) → IsVisited p v.mult v.bound (more_floors box.floors cell at) box.caps w → IsAtMost (value_of w) level
  more_most w says =
      most_by p v.mult v.bound level (more_floors box.floors cell at) box.caps w.known w.mult w.bound says.known is
      (λ point relaxed.
      let under = bound-own_more p box.floors box.caps cell at v.mult w.mult point program place.by place.is_box place.low place.high relaxed in
      let whole = place.bound_is in
      omega (arith, ints, under, whole, is))

-- ---- a number of the longer list

-- an old number other than the split one, the split one, or one of the two new ones
new_number : (size longer n i : ℕ) → longer ≡ size + 2 → i < longer → (((i ≡ n → ⊥) × (i < size)) ⊎ (i ≡ n)) ⊎ ((i ≡ size) ⊎ (i ≡ size + 1))
new_number size longer n i sized there = elim (cases_lt i size) [
  | inl old ↦ elim (cases_eq i n) [ inl same ↦ inl (inr same) | inr other ↦ inl (inl (other, old)) ]
  | inr new ↦ elim (cases_eq i size) [ inl same ↦ inr (inl same) | inr other ↦ inr (inr (omega (arith, sized, there, new, other))) ]
]

hand_not_split : (state : State) → state ≡ states.InHand → IsSplitState state → ⊥
hand_not_split state e h = rw e at h

split_not_hand : (state : State) (k : ℕ) → state ≡ states.Split k → state ≡ states.InHand → ⊥
split_not_hand state k e h = let same : states.Split k ≡ states.InHand = sym e ∙ h in cc

hand_stands : (closed : Option ℤ) (state : State) (bound : ℤ) (v : Visited) → state ≡ states.InHand → StandsAs closed state bound v
hand_stands closed state bound v e = rw e tt

parted_not_stuck : (known : Known) → IsParted known → IsStuckKnown known → ⊥
parted_not_stuck knowns.Nothing h k = h
parted_not_stuck knowns.Whole h k = h
parted_not_stuck (knowns.Parted cell at) h k = k
parted_not_stuck knowns.Stuck h k = h

-- ---- what is known of each number after a split

module _ (before after : List Node) (old new : List Visited) (n : ℕ) (less more : Visited) (made : AreSplit before after n)
    (known : AreVisited old new (length before) less more) (p : Program) (level : ℤ) where
  -- the leaves
  module _ (found later : Option (List ℕ)) (halted : Option ℤ) (grows : IsBetter p found later)
      (kept : (i : ℕ) → IsLeaf before i → IsLeafKept p level found halted (node_at before i) (visited_at old i))
      (less_most : IsAtMost (value_of less) level) (less_held : IsHeldAs p later less.known less.bound)
      (more_most : IsAtMost (value_of more) level) (more_held : IsHeldAs p later more.known more.bound) where
    new_leaf : (node : Node) (v w : Visited) → node.state ≡ states.InHand → v ≡ w → IsAtMost (value_of w) level → IsHeldAs p later w.known w.bound
        → IsLeafKept p level later halted node v
    new_leaf node v w hand e most held = rw e (record { most = most; stands = hand_stands _ node.state node.bound w hand; held = held })

    pub leaf_divided : (i : ℕ) → IsLeaf after i → IsLeafKept p level later halted (node_at after i) (visited_at new i)
    leaf_divided i is = elim (new_number (length before) (length after) n i made.sized is.0) [
      | inl old_one ↦ elim old_one [
        | inl here ↦
            let same = made.old i here.1 here.0 in
            let was : IsLeaf before i = (here.1, subst (λ (x : Node). IsLeafState x.state) same is.1) in
            rw (same, known.old i here.1) (leaf_more p level found later halted (node_at before i) (visited_at old i) grows (kept i was))
        | inr same ↦ absurd (subst IsLeafState (ap (λ k. (node_at after k).state) same ∙ made.parted) is.1)
      ]
      | inr new_one ↦ elim new_one [
        | inl same ↦
            new_leaf (node_at after i) (visited_at new i) less (ap (λ k. (node_at after k).state) same ∙ made.first) (ap (visited_at new) same ∙ known.first)
            less_most less_held
        | inr same ↦
            new_leaf (node_at after i) (visited_at new i) more (ap (λ k. (node_at after k).state) same ∙ made.second) (ap (visited_at new) same ∙ known.second)
            more_most more_held
      ]
    ]

  -- the splits
  pub split_divided : ((i : ℕ) → IsSplit before i → level ≤ℤ (visited_at old i).bound) → (visited_at old n).bound ≡ level → (i : ℕ) → IsSplit after i
      → level ≤ℤ (visited_at new i).bound
  split_divided splits is i there = elim (new_number (length before) (length after) n i made.sized there.0) [
    | inl old_one ↦ elim old_one [
      | inl here ↦
          let was : IsSplit before i = (here.1, subst (λ (x : Node). IsSplitState x.state) (made.old i here.1 here.0) there.1) in
          rw (known.old i here.1) (splits i was)
      | inr same ↦
          let here : visited_at new i ≡ visited_at old n = ap (visited_at new) same ∙ known.old n made.there in
          rw here (omega (arith, ints, is))
    ]
    | inr new_one ↦ elim new_one [
      | inl same ↦ absurd (hand_not_split (node_at after i).state (ap (λ k. (node_at after k).state) same ∙ made.first) there.1)
      | inr same ↦ absurd (hand_not_split (node_at after i).state (ap (λ k. (node_at after k).state) same ∙ made.second) there.1)
    ]
  ]

  -- those in hand
  pub hand_divided : ((i : ℕ) → i < length before → (node_at before i).state ≡ states.InHand → In i (n ∷ [])) → (i : ℕ) → i < length after
      → (node_at after i).state ≡ states.InHand → In i (length before ∷ (length before + 1) ∷ [])
  hand_divided in_hand i there hand = elim (new_number (length before) (length after) n i made.sized there) [
    | inl old_one ↦ elim old_one [
      | inl here ↦ elim (in_hand i here.1 (sym (ap (λ (x : Node). x.state) (made.old i here.1 here.0)) ∙ hand)) [
        | inl same ↦ absurd (here.0 same)
        | inr none ↦ absurd none
      ]
      | inr same ↦ absurd (split_not_hand (node_at after i).state (length before) (ap (λ k. (node_at after k).state) same ∙ made.parted) hand)
    ]
    | inr new_one ↦ elim new_one [ inl same ↦ inl same | inr same ↦ inr (inl same) ]
  ]

  -- a leaf where the steps ended in no point
  halted_at : (e : ℤ) (i : ℕ) → IsParted (visited_at old n).known → IsHaltedAt before old e i → IsHaltedAt after new e i
  halted_at e i parted h =
      let there = h.leaf in
      let other : i ≡ n → ⊥ = λ same. parted_not_stuck (visited_at old n).known parted (subst (λ k. IsStuckKnown (visited_at old k).known) same h.stuck) in
      let same = made.old i there.0 other in
      let says = known.old i there.0 in
      let sized = made.sized in
      record {
        leaf = (omega (arith, there, sized), subst (λ (x : Node). IsLeafState x.state) (sym same) there.1);
        stuck = rw says h.stuck;
        bound = rw says h.bound;
      }

  pub halt_divided : (halted : Option ℤ) → IsParted (visited_at old n).known → IsHalted before old halted → IsHalted after new halted
  halt_divided None parted h = tt
  halt_divided (Some e) parted h = (h.0, halted_at e h.0 parted h.1)
