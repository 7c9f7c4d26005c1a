-- What holding, closing and settling a node in hand leave of a search.
use Rattle.std.proofs.Common.{◌≡◌, ℕ, ◌+◌, List, length, Option, Some, None, refl, sym, ap, subst, arith, inl, inr, ◌⊎◌}
use Rattle.std.specs.Prelude.{ℤ, ◌≤ℤ◌, slice_set, MatchOption}
use Rattle.std.specs.Bool.{⊤}
use Rattle.std.specs.Int.{int_max}
use Rattle.std.proofs.lemmas.Int.{ints, clamps, by_lt_z}
use Rattle.std.proofs.lemmas.List.{length-set}
use Rattle.pc_program_bound.specs.declared.program.Program.{Program}
use Rattle.pc_program_bound.specs.Allocation.{worth}
use Rattle.pc_program_bound.specs.SplitTrees.{IsWithin}
use Rattle.pc_frontier.specs.declared.node.State.TheVariants as states
use Rattle.pc_frontier.specs.declared.node.Node.{Node}
use Rattle.pc_frontier.specs.Rings.{In}
use Rattle.pc_frontier.specs.Frontier.{Seen, node_at, IsInHand, held, closed}
use Rattle.pc_frontier.specs.Boxes.{IsLeafState, AreLeavesKept}
use Rattle.pc_branch.specs.declared.visited.Known.{Known}
use Rattle.pc_branch.specs.declared.visited.Known.TheVariants as knowns
use Rattle.pc_branch.specs.declared.visited.Visited.{Visited}
use Rattle.pc_branch.specs.declared.search.Search.{Search}
use Rattle.pc_branch.specs.Grown.{visited_at, value_as, value_of, IsParted, IsStuckKnown}
use Rattle.pc_branch.specs.Searching.{IsSearching, IsLeafKept, IsHalted, StandsAs, closed_at, worth_found, IsHeldAs}
use Rattle.pc_branch.specs.Steps.{raised, counts_found, settled, settled_as, budget_of, IsSearch}
use Rattle.pc_branch.proofs.Kept.{IsMoved, moves_keep, kept_set, set_by, IsRaised, same_raised, leaf_raised, within-first, within-second}

-- ---- a search whose frontier moved

moved_size : (p : Program) (f after : Seen) (visited : List Visited) (found : Option (List ℕ)) (halted halted_after : Option ℤ) (hand hand_after : List ℕ) (level : ℤ)
    → IsMoved p f after visited found halted halted_after hand hand_after level → f.room + length f.nodes ≡ after.room + length after.nodes
moved_size p f after visited found halted halted_after hand hand_after level moved =
    let sized : length after.nodes ≡ length f.nodes = moved.kept.sized in
    let room : after.room ≡ f.room = moved.room in
    cc

pub moved_search : (p : Program) (s : Search) (f : Seen) (halted : Option ℤ) (hand hand_after : List ℕ) (level : ℤ)
    → IsMoved p s.frontier f s.visited (counts_found s.found) s.halted halted hand hand_after level → IsSearch p s hand level
    → IsSearch p (record s { frontier = f; halted = halted }) hand_after level
moved_search p s f halted hand hand_after level moved is = record {
  search = moves_keep p (f.room + length f.nodes) s.frontier f s.visited (counts_found s.found) s.halted halted hand hand_after level moved
      (subst (λ (budget : ℕ). IsSearching p budget s.frontier s.visited (counts_found s.found) s.halted hand level)
      (moved_size p s.frontier f s.visited (counts_found s.found) s.halted halted hand hand_after level moved) is.search);
  valued = is.valued;
}

-- a halted leaf stays one where leaves stay leaves
pub halt_kept : (before after : List Node) (visited : List Visited) (halted : Option ℤ) → AreLeavesKept before after → IsHalted before visited halted → IsHalted after visited halted
halt_kept before after visited None kept h = tt
halt_kept before after visited (Some e) kept h = (
  h.0,
  record {
    leaf = (omega (arith, h.1.leaf.0, kept.sized), kept.leaves h.0 h.1.leaf.1);
    stuck = h.1.stuck;
    bound = h.1.bound;
  },
)

-- ---- a node in hand is let go

-- the other names of what is in hand stay
pub record IsLetGo (n : ℕ) (hand hand_after : List ℕ) : Type 0 where
  pub rest : (m : ℕ) → In m hand → (m ≡ n → ⊥) → In m hand_after

hand_leaf : (f : Seen) (n : ℕ) → IsInHand f n → IsLeafState (node_at f.nodes n).state
hand_leaf f n hand = subst IsLeafState (sym hand.1) tt

-- the new state of a node that is let go, which is not in hand, and what its leaf is then
record IsLeft (p : Program) (level : ℤ) (found : Option (List ℕ)) (halted halted_after : Option ℤ) (nodes : List Node) (visited : List Visited) (n : ℕ) (x : Node) : Type 0 where
  born : x.born ≡ (node_at nodes n).born
  leaf : IsLeafState x.state
  gone : x.state ≡ states.InHand → ⊥
  stands : (i : ℕ) → i ≡ n → IsLeafKept p level found halted (node_at nodes i) (visited_at visited i) → StandsAs (closed_at p found halted_after) x.state x.bound (visited_at visited i)
  raise : IsRaised halted halted_after

left_moves : (p : Program) (f : Seen) (visited : List Visited) (found : Option (List ℕ)) (halted halted_after : Option ℤ) (hand hand_after : List ℕ) (level : ℤ)
    (n : ℕ) (x : Node) (opened : List ℕ) → IsInHand f n → IsLetGo n hand hand_after → IsLeft p level found halted halted_after f.nodes visited n x
    → (AreLeavesKept f.nodes (slice_set f.nodes n x) → IsHalted f.nodes visited halted → IsHalted (slice_set f.nodes n x) visited halted_after)
    → IsMoved p f (record { room = f.room; nodes = slice_set f.nodes n x; opened = opened }) visited found halted halted_after hand hand_after level
left_moves p f visited found halted halted_after hand hand_after level n x opened in_hand go left halts =
    let was : IsLeafState (node_at f.nodes n).state = hand_leaf f n in_hand in
    let kept : AreLeavesKept f.nodes (slice_set f.nodes n x) = kept_set f.nodes n x in_hand.0 left.born left.leaf was in
    record {
      kept = kept;
      room = refl;
      leaves = λ i there leaf. set_by f.nodes n x in_hand.0 left.born left.leaf was
          (λ k y. IsLeafKept p level found halted (node_at f.nodes k) (visited_at visited k) → IsLeafKept p level found halted_after y (visited_at visited k)) i
          (λ e is. record { most = is.most; stands = left.stands i e is; held = is.held })
          (λ ne is. leaf_raised p level found halted halted_after (node_at f.nodes i) (visited_at visited i) left.raise is) leaf;
      in_hand = λ m is named. set_by f.nodes n x in_hand.0 left.born left.leaf was
          (λ k y. y.state ≡ states.InHand → ((node_at f.nodes k).state ≡ states.InHand → In k hand) → In k hand_after) m
          (λ e is named. absurd (left.gone is)) (λ ne is named. go.rest m (named is) ne) is named;
      halt = halts kept;
    }

-- ---- holding

pub held_moves : (p : Program) (f : Seen) (visited : List Visited) (found : Option (List ℕ)) (halted : Option ℤ) (hand hand_after : List ℕ) (level : ℤ) (n : ℕ) (bound : ℤ)
    → IsInHand f n → IsLetGo n hand hand_after → IsParted (visited_at visited n).known → (visited_at visited n).bound ≡ bound
    → IsMoved p f (held n bound f) visited found halted halted hand hand_after level
held_moves p f visited found halted hand hand_after level n bound in_hand go parted is =
    let x : Node = record (node_at f.nodes n) { state = states.Open; bound = bound } in
    left_moves p f visited found halted halted hand hand_after level n x (held n bound f).opened in_hand go
    (record {
      born = refl;
      leaf = tt;
      gone = λ e. cc;
      stands = λ i e leaf. subst (λ (k : ℕ). IsParted (visited_at visited k).known × ((visited_at visited k).bound ≡ bound)) (sym e) (parted, is);
      raise = same_raised halted;
    })
    (λ kept h. halt_kept f.nodes (held n bound f).nodes visited halted kept h)

-- ---- closing

abbrev IsUnder : Program → Option (List ℕ) → Option ℤ → Visited → Type 0
IsUnder p found halted v = MatchOption (value_of v) ⊤ (λ x. IsWithin x (closed_at p found halted))

pub closed_moves : (p : Program) (f : Seen) (visited : List Visited) (found : Option (List ℕ)) (halted halted_after : Option ℤ) (hand hand_after : List ℕ) (level : ℤ) (n : ℕ)
    → IsInHand f n → IsLetGo n hand hand_after → IsRaised halted halted_after
    → (IsLeafKept p level found halted (node_at f.nodes n) (visited_at visited n) → IsUnder p found halted_after (visited_at visited n))
    → (AreLeavesKept f.nodes (closed n f).nodes → IsHalted f.nodes visited halted → IsHalted (closed n f).nodes visited halted_after)
    → IsMoved p f (closed n f) visited found halted halted_after hand hand_after level
closed_moves p f visited found halted halted_after hand hand_after level n in_hand go raise under halts =
    let x : Node = record (node_at f.nodes n) { state = states.Closed } in
    left_moves p f visited found halted halted_after hand hand_after level n x f.opened in_hand go
    (record {
      born = refl;
      leaf = tt;
      gone = λ e. cc;
      stands = λ i e. subst (λ (k : ℕ). IsLeafKept p level found halted (node_at f.nodes k) (visited_at visited k) → IsUnder p found halted_after (visited_at visited k)) (sym e) under;
      raise = raise;
    })
    halts

-- ---- settling

held-found : (p : Program) (found : Option (List ℕ)) (halted : Option ℤ) (bound : ℤ) → MatchOption found ⊥ (λ counts. bound ≤ℤ worth p counts) → IsWithin bound (closed_at p found halted)
held-found p None halted bound h = absurd h
held-found p (Some counts) halted bound h = within-first bound (Some (worth p counts)) halted h

under_whole : (p : Program) (found : Option (List ℕ)) (halted : Option ℤ) (known : Known) (bound : ℤ) → known ≡ knowns.Whole → IsHeldAs p found known bound
    → MatchOption (value_as known bound) ⊤ (λ x. IsWithin x (closed_at p found halted))
under_whole p found halted known bound e h =
    subst (λ (k : Known). IsHeldAs p found k bound → MatchOption (value_as k bound) ⊤ (λ x. IsWithin x (closed_at p found halted))) (sym e)
    (held-found p found halted bound) h

raised-more : (halted : Option ℤ) (bound : ℤ) → IsRaised halted (raised halted bound)
raised-more None bound = record { more = λ v h. absurd h }
raised-more (Some e) bound = record { more = λ v h. omega (arith, ints, clamps, h) }

raised-within : (halted : Option ℤ) (bound : ℤ) → IsWithin bound (raised halted bound)
raised-within None bound = omega (arith, ints)
raised-within (Some e) bound = omega (arith, ints, clamps)

-- the greater of two bounds is one of them
raised-is : (halted : Option ℤ) (bound : ℤ) → (raised halted bound ≡ halted) ⊎ (raised halted bound ≡ Some bound)
raised-is None bound = inr refl
raised-is (Some e) bound = by_lt_z e bound
    (λ less. let same : int_max e bound ≡ bound = omega (arith, ints, clamps, less) in inr (ap Some same))
    (λ most. let same : int_max e bound ≡ e = omega (arith, ints, clamps, most) in inl (ap Some same))

halt_raised : (nodes : List Node) (visited : List Visited) (halted : Option ℤ) (bound : ℤ) → IsHalted nodes visited halted → IsHalted nodes visited (Some bound) → IsHalted nodes visited (raised halted bound)
halt_raised nodes visited halted bound h other = elim (raised-is halted bound) [
  | inl e ↦ subst (IsHalted nodes visited) (sym e) h
  | inr e ↦ subst (IsHalted nodes visited) (sym e) other
]

module _ (p : Program) (s : Search) (n : ℕ) (hand hand_after : List ℕ) (level : ℤ) (in_hand : IsInHand s.frontier n) (go : IsLetGo n hand hand_after) (is : IsSearch p s hand level) where
  closed_keeps : (halted : Option ℤ) → IsRaised s.halted halted → IsUnder p (counts_found s.found) halted (visited_at s.visited n)
      → (AreLeavesKept s.frontier.nodes (closed n s.frontier).nodes → IsHalted s.frontier.nodes s.visited s.halted → IsHalted (closed n s.frontier).nodes s.visited halted)
      → IsSearch p (record s { frontier = closed n s.frontier; halted = halted }) hand_after level
  closed_keeps halted raise under halts =
      moved_search p s (closed n s.frontier) halted hand hand_after level
      (closed_moves p s.frontier s.visited (counts_found s.found) s.halted halted hand hand_after level n in_hand go raise (λ leaf. under) halts) is

  leaf_here : IsLeafKept p level (counts_found s.found) s.halted (node_at s.frontier.nodes n) (visited_at s.visited n)
  leaf_here = is.search.leaves n (in_hand.0, hand_leaf s.frontier n in_hand)

  stays_halted : AreLeavesKept s.frontier.nodes (closed n s.frontier).nodes → IsHalted s.frontier.nodes s.visited s.halted → IsHalted (closed n s.frontier).nodes s.visited s.halted
  stays_halted kept h = halt_kept s.frontier.nodes (closed n s.frontier).nodes s.visited s.halted kept h

  settled_as_keeps : (known : Known) (bound : ℤ) → (visited_at s.visited n).known ≡ known → (visited_at s.visited n).bound ≡ bound → IsSearch p (settled_as known bound n s) hand_after level
  settled_as_keeps (knowns.Parted cell at) bound e same =
      moved_search p s (held n bound s.frontier) s.halted hand hand_after level
      (held_moves p s.frontier s.visited (counts_found s.found) s.halted hand hand_after level n bound in_hand go (subst IsParted (sym e) tt) same) is
  settled_as_keeps knowns.Stuck bound e same =
      closed_keeps (raised s.halted bound) (raised-more s.halted bound)
      (under_stuck (visited_at s.visited n) e same)
      (λ kept h. halt_raised (closed n s.frontier).nodes s.visited s.halted bound (stays_halted kept h)
      (n, record { leaf = (omega (arith, in_hand.0, kept.sized), kept.leaves n (hand_leaf s.frontier n in_hand)); stuck = subst IsStuckKnown (sym e) tt; bound = same }))
    where
      under_stuck : (v : Visited) → v.known ≡ knowns.Stuck → v.bound ≡ bound → IsUnder p (counts_found s.found) (raised s.halted bound) v
      under_stuck v e same =
          subst (λ (k : Known). MatchOption (value_as k v.bound) ⊤ (λ x. IsWithin x (closed_at p (counts_found s.found) (raised s.halted bound)))) (sym e)
          (subst (λ (b : ℤ). IsWithin b (closed_at p (counts_found s.found) (raised s.halted bound))) (sym same)
          (within-second bound (worth_found p (counts_found s.found)) (raised s.halted bound) (raised-within s.halted bound)))
  settled_as_keeps knowns.Nothing bound e same =
      closed_keeps s.halted (same_raised s.halted)
      (subst (λ (k : Known). MatchOption (value_as k (visited_at s.visited n).bound) ⊤ (λ x. IsWithin x (closed_at p (counts_found s.found) s.halted))) (sym e) tt)
      stays_halted
  settled_as_keeps knowns.Whole bound e same =
      closed_keeps s.halted (same_raised s.halted)
      (under_whole p (counts_found s.found) s.halted (visited_at s.visited n).known (visited_at s.visited n).bound e leaf_here.held)
      stays_halted

  pub settled_keeps : IsSearch p (settled n s) hand_after level
  settled_keeps = settled_as_keeps (visited_at s.visited n).known (visited_at s.visited n).bound refl refl

settled_as_budget : (s : Search) (n : ℕ) (known : Known) (bound : ℤ) → budget_of (settled_as known bound n s) ≡ budget_of s
settled_as_budget s n (knowns.Parted cell at) bound = ap (λ k. s.frontier.room + k) (length-set s.frontier.nodes n _)
settled_as_budget s n knowns.Stuck bound = ap (λ k. s.frontier.room + k) (length-set s.frontier.nodes n _)
settled_as_budget s n knowns.Nothing bound = ap (λ k. s.frontier.room + k) (length-set s.frontier.nodes n _)
settled_as_budget s n knowns.Whole bound = ap (λ k. s.frontier.room + k) (length-set s.frontier.nodes n _)

pub settled_budget : (s : Search) (n : ℕ) → budget_of (settled n s) ≡ budget_of s
settled_budget s n = settled_as_budget s n (visited_at s.visited n).known (visited_at s.visited n).bound
