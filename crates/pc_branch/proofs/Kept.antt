-- What a call of the frontier that keeps the leaves leaves of a search, and what may be closed.
use Rattle.std.proofs.Common.{◌≡◌, ◌<◌, ℕ, List, length, Option, Some, None, refl, sym, ap, ◌∙◌, subst, arith, inl, inr, ◌⊎◌}
use Rattle.std.specs.Prelude.{ℤ, ◌≤ℤ◌, slice_set, MatchOption}
use Rattle.std.specs.Bool.{⊤}
use Rattle.std.proofs.lemmas.Int.{ints, clamps, by_lt_z}
use Rattle.std.proofs.lemmas.Bool.{cases_eq}
use Rattle.std.proofs.lemmas.List.{get_or-set_other, get_or-set_same, length-set}
use Rattle.pc_program_bound.specs.declared.program.Program.{Program}
use Rattle.pc_program_bound.specs.SplitTrees.{greater, IsWithin}
use Rattle.pc_frontier.specs.declared.node.State.{State}
use Rattle.pc_frontier.specs.declared.node.State.TheVariants as states
use Rattle.pc_frontier.specs.declared.node.Node.{Node}
use Rattle.pc_frontier.specs.Rings.{In}
use Rattle.pc_frontier.specs.Frontier.{Seen, no_node, node_at}
use Rattle.pc_frontier.specs.Boxes.{IsLeaf, IsLeafState, IsSplitAt, AreLeavesKept}
use Rattle.pc_frontier.proofs.Trees.{calls_keep_trees}
use Rattle.pc_frontier.proofs.Keeping.{calls_keep_fit}
use Rattle.pc_branch.specs.declared.visited.Visited.{Visited}
use Rattle.pc_branch.specs.Grown.{visited_at, value_of}
use Rattle.pc_branch.specs.Searching.{IsSearching, IsLeafKept, IsSplitState, IsSplit, IsHalted, StandsAs, closed_at, worth_found, start_of}

-- ---- states

leaf_or_split : (s : State) → IsLeafState s ⊎ ((k : ℕ) × IsSplitAt s k)
leaf_or_split states.Closed = inl tt
leaf_or_split states.Open = inl tt
leaf_or_split states.InHand = inl tt
leaf_or_split (states.Split first) = inr (first, refl)

pub not_both : (s : State) → IsLeafState s → IsSplitState s → ⊥
not_both states.Closed is at = at
not_both states.Open is at = at
not_both states.InHand is at = at
not_both (states.Split first) is at = is

split_at : (s : State) (k : ℕ) → IsSplitAt s k → IsSplitState s
split_at states.Closed k is = is
split_at states.Open k is = is
split_at states.InHand k is = is
split_at (states.Split first) k is = tt

-- a node that is split after a call that keeps the leaves was split before
was_split : (before after : List Node) (n : ℕ) → AreLeavesKept before after → IsSplit after n → IsSplit before n
was_split before after n kept is = elim (leaf_or_split (node_at before n).state) [
  | inl leaf ↦ absurd (not_both (node_at after n).state (kept.leaves n leaf) is.1)
  | inr at ↦ (omega (arith, is.0, kept.sized), split_at (node_at before n).state at.0 at.1)
]

was_leaf : (before after : List Node) (n : ℕ) → AreLeavesKept before after → IsLeaf after n → IsLeaf before n
was_leaf before after n kept is = elim (leaf_or_split (node_at before n).state) [
  | inl leaf ↦ (omega (arith, is.0, kept.sized), leaf)
  | inr at ↦ absurd (not_both (node_at after n).state is.1 (split_at (node_at after n).state at.0 (kept.splits n at.0 at.1)))
]

-- ---- a call that keeps the leaves

-- what a call leaves of a search: each leaf is kept, and what is in hand is named
pub record IsMoved (p : Program) (f after : Seen) (visited : List Visited) (found : Option (List ℕ)) (halted halted_after : Option ℤ) (hand hand_after : List ℕ) (level : ℤ) : Type 0 where
  pub kept : AreLeavesKept f.nodes after.nodes
  pub room : after.room ≡ f.room
  pub leaves : (n : ℕ) → n < length f.nodes → IsLeafKept p level found halted (node_at f.nodes n) (visited_at visited n) → IsLeafKept p level found halted_after (node_at after.nodes n) (visited_at visited n)
  pub in_hand : (n : ℕ) → (node_at after.nodes n).state ≡ states.InHand → ((node_at f.nodes n).state ≡ states.InHand → In n hand) → In n hand_after
  pub halt : IsHalted f.nodes visited halted → IsHalted after.nodes visited halted_after

pub moves_keep : (p : Program) (budget : ℕ) (f after : Seen) (visited : List Visited) (found : Option (List ℕ)) (halted halted_after : Option ℤ) (hand hand_after : List ℕ) (level : ℤ)
    → IsMoved p f after visited found halted halted_after hand hand_after level → IsSearching p budget f visited found halted hand level
    → IsSearching p budget after visited found halted_after hand_after level
moves_keep p budget f after visited found halted halted_after hand hand_after level moved s =
    let sized : length after.nodes ≡ length f.nodes = moved.kept.sized in
    record {
      tree = s.tree;
      is_tree = calls_keep_trees f.nodes after.nodes s.tree moved.kept s.is_tree;
      fit = calls_keep_fit f.nodes after.nodes (start_of p) moved.kept s.fit;
      long = s.long ∙ sym sized;
      room = omega (arith, s.room, moved.room, sized);
      grown = s.grown;
      leaves = λ n is. moved.leaves n (was_leaf f.nodes after.nodes n moved.kept is).0 (s.leaves n (was_leaf f.nodes after.nodes n moved.kept is));
      splits = λ n is. s.splits n (was_split f.nodes after.nodes n moved.kept is);
      in_hand = λ n there is. moved.in_hand n is (s.in_hand n (omega (arith, there, sized)));
      allowed = s.allowed;
      halt = moved.halt s.halt;
    }

-- ---- one node is set

module _ (nodes : List Node) (n : ℕ) (x : Node) (there : n < length nodes) (born : x.born ≡ (node_at nodes n).born) (leaf : IsLeafState x.state) (was : IsLeafState (node_at nodes n).state) where
  set_here : node_at (slice_set nodes n x) n ≡ x
  set_here = get_or-set_same nodes n x no_node there

  set_there : (i : ℕ) → (i ≡ n → ⊥) → node_at (slice_set nodes n x) i ≡ node_at nodes i
  set_there i ne = get_or-set_other nodes n i x no_node ne

  pub kept_set : AreLeavesKept nodes (slice_set nodes n x)
  kept_set = record {
    sized = length-set nodes n x;
    born = λ i. elim (cases_eq i n) [
      | inl e ↦ subst (λ k. (node_at (slice_set nodes n x) k).born ≡ (node_at nodes k).born) (sym e) (ap (λ (y : Node). y.born) set_here ∙ born)
      | inr ne ↦ ap (λ (y : Node). y.born) (set_there i ne)
    ];
    leaves = λ i is. elim (cases_eq i n) [
      | inl e ↦ subst (λ k. IsLeafState (node_at (slice_set nodes n x) k).state) (sym e) (subst (λ (y : Node). IsLeafState y.state) (sym set_here) leaf)
      | inr ne ↦ subst (λ (y : Node). IsLeafState y.state) (sym (set_there i ne)) is
    ];
    splits = λ i k is. elim (cases_eq i n) [
      | inl e ↦ absurd (not_both (node_at nodes n).state was (split_at (node_at nodes n).state k (subst (λ j. IsSplitAt (node_at nodes j).state k) e is)))
      | inr ne ↦ subst (λ (y : Node). IsSplitAt y.state k) (sym (set_there i ne)) is
    ];
  }

  -- what holds of the new node at its number, and of the old ones at the others, holds after
  pub set_by : (P : ℕ → Node → Type 0) (i : ℕ) → (i ≡ n → P i x) → ((i ≡ n → ⊥) → P i (node_at nodes i)) → P i (node_at (slice_set nodes n x) i)
  set_by P i here other = elim (cases_eq i n) [
    | inl e ↦ subst (P i) (sym (ap (node_at (slice_set nodes n x)) e ∙ set_here)) (here e)
    | inr ne ↦ subst (P i) (sym (set_there i ne)) (other ne)
  ]

-- ---- what may be closed

pub within-first : (v : ℤ) (a b : Option ℤ) → IsWithin v a → IsWithin v (greater a b)
within-first v None b h = elim h [ ]
within-first v (Some x) None h = h
within-first v (Some x) (Some y) h = omega (arith, ints, clamps, h)

pub within-second : (v : ℤ) (a b : Option ℤ) → IsWithin v b → IsWithin v (greater a b)
within-second v None b h = h
within-second v (Some x) None h = elim h [ ]
within-second v (Some x) (Some y) h = omega (arith, ints, clamps, h)

-- more may be closed where a greater number was halted
pub record IsRaised (before after : Option ℤ) : Type 0 where
  pub more : (v : ℤ) → IsWithin v before → IsWithin v after

pub same_raised : (a : Option ℤ) → IsRaised a a
same_raised a = record { more = λ v h. h }

most_of : (v x y : ℤ) → IsWithin v (greater (Some x) (Some y)) → (v ≤ℤ x) ⊎ (v ≤ℤ y)
most_of v x y h = by_lt_z x v (λ less. inr (omega (arith, ints, clamps, h, less))) (λ most. inl most)

within_raised : (v : ℤ) (a b c : Option ℤ) → IsRaised b c → IsWithin v (greater a b) → IsWithin v (greater a c)
within_raised v None b c raised h = raised.more v h
within_raised v (Some x) None c raised h = within-first v (Some x) c h
within_raised v (Some x) (Some y) c raised h = by (most_of v x y h)
  where
    by : (v ≤ℤ x) ⊎ (v ≤ℤ y) → IsWithin v (greater (Some x) c)
    by (inl l) = within-first v (Some x) c l
    by (inr r) = within-second v (Some x) c (raised.more v r)

stands_raised : (p : Program) (found : Option (List ℕ)) (b c : Option ℤ) (state : State) (bound : ℤ) (v : Visited) → IsRaised b c
    → StandsAs (closed_at p found b) state bound v → StandsAs (closed_at p found c) state bound v
stands_raised p found b c states.Open bound v raised h = h
stands_raised p found b c states.InHand bound v raised h = h
stands_raised p found b c (states.Split first) bound v raised h = h
stands_raised p found b c states.Closed bound v raised h = by (value_of v) h
  where
    by : (value : Option ℤ) → MatchOption value ⊤ (λ x. IsWithin x (closed_at p found b)) → MatchOption value ⊤ (λ x. IsWithin x (closed_at p found c))
    by None h = tt
    by (Some x) h = within_raised x (worth_found p found) b c raised h

pub leaf_raised : (p : Program) (level : ℤ) (found : Option (List ℕ)) (b c : Option ℤ) (node : Node) (v : Visited) → IsRaised b c → IsLeafKept p level found b node v → IsLeafKept p level found c node v
leaf_raised p level found b c node v raised leaf = record {
  most = leaf.most;
  stands = stands_raised p found b c node.state node.bound v raised leaf.stands;
  held = leaf.held;
}
