-- What pruning, and taking the first open node, leave of a search.
use Rattle.std.proofs.Common.{◌≡◌, ◌<◌, ℕ, ◌+◌, Bool, true, false, not, ◌&&◌, List, [], ◌∷◌, length, map, Option, Some, None, refl, sym, ap, subst, arith, inl, inr}
use Rattle.std.specs.Prelude.{ℤ, ◌≤ℤ◌, int_lt, slice_set, MatchOption}
use Rattle.std.specs.Bool.{⊤}
use Rattle.std.proofs.lemmas.Int.{ints}
use Rattle.std.proofs.lemmas.Bool.{cond_both}
use Rattle.std.proofs.lemmas.List.{length-map, length-set}
use Rattle.std.proofs.Math.ListN.{get_or-map}
use Rattle.pc_program_bound.specs.declared.program.Program.{Program}
use Rattle.pc_program_bound.specs.Allocation.{worth}
use Rattle.pc_program_bound.specs.SplitTrees.{IsWithin}
use Rattle.pc_frontier.specs.declared.node.State.{State}
use Rattle.pc_frontier.specs.declared.node.State.TheVariants as states
use Rattle.pc_frontier.specs.declared.node.Node.{Node}
use Rattle.pc_frontier.specs.Rings.{In}
use Rattle.pc_frontier.specs.Frontier.{Seen, no_node, node_at, pruned, pruned_node, is_open, taken_from, IsInHand}
use Rattle.pc_frontier.specs.Boxes.{IsLeafState, IsSplitAt, AreLeavesKept}
use Rattle.pc_branch.specs.declared.visited.Known.{Known}
use Rattle.pc_branch.specs.declared.visited.Known.TheVariants as knowns
use Rattle.pc_branch.specs.declared.visited.Visited.{Visited}
use Rattle.pc_branch.specs.declared.search.Found.{Found}
use Rattle.pc_branch.specs.declared.search.Search.{Search}
use Rattle.pc_branch.specs.Grown.{visited_at, value_as, IsParted}
use Rattle.pc_branch.specs.Searching.{IsLeafKept, StandsAs, closed_at}
use Rattle.pc_branch.specs.Steps.{counts_found, value_found, pruned_at, pruned_by, with_taken, budget_of, IsValued, IsSearch}
use Rattle.pc_branch.proofs.Kept.{IsMoved, kept_set, set_by, within-first}
use Rattle.pc_branch.proofs.Moves.{moved_search, halt_kept}

-- ---- pruning

open_state : (s : State) → is_open s ≡ true → s ≡ states.Open
open_state states.Open e = refl
open_state states.Closed e = cc
open_state states.InHand e = cc
open_state (states.Split first) e = cc

both-true : (a b : Bool) → a && b ≡ true → (a ≡ true) × (b ≡ true)
both-true true true e = (refl, refl)
both-true true false e = cc
both-true false true e = cc
both-true false false e = cc

not_below : (value bound : ℤ) → not (int_lt value bound) ≡ true → bound ≤ℤ value
not_below value bound e = grind (arith, ints, e)

-- an open node of at most the value is closed, and any other one is as it was
pruned-by : (value : ℤ) (node : Node) (P : Node → Type 0) → (node.state ≡ states.Open → node.bound ≤ℤ value → P (record node { state = states.Closed })) → P node → P (pruned_node value node)
pruned-by value node P shut same =
    cond_both (is_open node.state && not (int_lt value node.bound)) (record node { state = states.Closed }) node P
    (λ e. let both = both-true (is_open node.state) (not (int_lt value node.bound)) e in shut (open_state node.state both.0) (not_below value node.bound both.1))
    (λ e. same)

module _ (value : ℤ) (nodes : List Node) where
  pruned-at : (i : ℕ) → node_at (map (pruned_node value) nodes) i ≡ pruned_node value (node_at nodes i)
  pruned-at i = get_or-map (pruned_node value) nodes i no_node

  pruned_each : (P : Node → Type 0) (i : ℕ) → ((node_at nodes i).state ≡ states.Open → (node_at nodes i).bound ≤ℤ value → P (record (node_at nodes i) { state = states.Closed }))
      → P (node_at nodes i) → P (node_at (map (pruned_node value) nodes) i)
  pruned_each P i shut same = subst P (sym (pruned-at i)) (pruned-by value (node_at nodes i) P shut same)

  kept_pruned : AreLeavesKept nodes (map (pruned_node value) nodes)
  kept_pruned = record {
    sized = length-map nodes (pruned_node value);
    born = λ i. pruned_each (λ y. y.born ≡ (node_at nodes i).born) i (λ e low. refl) refl;
    leaves = λ i is. pruned_each (λ y. IsLeafState y.state) i (λ e low. tt) is;
    splits = λ i k is. pruned_each (λ y. IsSplitAt y.state k) i (λ e low. subst (λ (s : State). IsSplitAt s k) e is) is;
  }

value-shut : (closed : Option ℤ) (known : Known) (bound : ℤ) → IsParted known → IsWithin bound closed → MatchOption (value_as known bound) ⊤ (λ x. IsWithin x closed)
value-shut closed (knowns.Parted cell at) bound is h = h
value-shut closed knowns.Nothing bound is h = absurd is
value-shut closed knowns.Whole bound is h = absurd is
value-shut closed knowns.Stuck bound is h = absurd is

pruned_moves : (p : Program) (f : Seen) (visited : List Visited) (found : Option (List ℕ)) (halted : Option ℤ) (hand : List ℕ) (level value : ℤ)
    → ((x : ℤ) → x ≤ℤ value → IsWithin x (closed_at p found halted)) → IsMoved p f (pruned value f) visited found halted halted hand hand level
pruned_moves p f visited found halted hand level value low = record {
  kept = kept_pruned value f.nodes;
  room = refl;
  leaves = λ i there leaf. pruned_each value f.nodes (λ y. IsLeafKept p level found halted y (visited_at visited i)) i
      (λ e under. record {
        most = leaf.most;
        stands = shut (visited_at visited i) (node_at f.nodes i) under (subst (λ (s : State). StandsAs (closed_at p found halted) s (node_at f.nodes i).bound (visited_at visited i)) e leaf.stands);
        held = leaf.held;
      }) leaf;
  in_hand = λ m is named. pruned_each value f.nodes (λ y. y.state ≡ states.InHand → In m hand) m (λ e under is. cc) named is;
  halt = λ h. halt_kept f.nodes (pruned value f).nodes visited halted (kept_pruned value f.nodes) h;
}
  where
    shut : (v : Visited) (node : Node) → node.bound ≤ℤ value → StandsAs (closed_at p found halted) states.Open node.bound v → StandsAs (closed_at p found halted) states.Closed node.bound v
    shut v node under stands = value-shut (closed_at p found halted) v.known v.bound stands.0 (low v.bound (subst (λ (b : ℤ). b ≤ℤ value) (sym stands.1) under))

found-within : (p : Program) (found : Found) (halted : Option ℤ) → IsValued p (Some found) → (x : ℤ) → x ≤ℤ found.value → IsWithin x (closed_at p (Some found.counts) halted)
found-within p found halted valued x h = within-first x (Some (worth p found.counts)) halted (subst (λ (w : ℤ). x ≤ℤ w) (sym valued) h)

pub pruned_keeps : (p : Program) (s : Search) (hand : List ℕ) (level : ℤ) → IsSearch p s hand level → IsSearch p (pruned_by s) hand level
pruned_keeps p s hand level is = by s.found refl
  where
    by : (found : Option Found) → s.found ≡ found → IsSearch p (record s { frontier = pruned_at (value_found found) s.frontier }) hand level
    by None e = is
    by (Some x) e =
        moved_search p s (pruned x.value s.frontier) s.halted hand hand level
        (pruned_moves p s.frontier s.visited (counts_found s.found) s.halted hand level x.value
        (subst (λ (found : Option Found). (k : ℤ) → k ≤ℤ x.value → IsWithin k (closed_at p (counts_found found) s.halted)) (sym e)
        (found-within p x s.halted (subst (IsValued p) e is.valued)))) is

pub pruned_budget : (s : Search) → budget_of (pruned_by s) ≡ budget_of s
pruned_budget s = by (value_found s.found)
  where
    by : (value : Option ℤ) → (pruned_at value s.frontier).room + length (pruned_at value s.frontier).nodes ≡ budget_of s
    by None = refl
    by (Some value) = ap (λ k. s.frontier.room + k) (length-map s.frontier.nodes (pruned_node value))

-- what is in hand stays so
pub pruned_in_hand : (s : Search) (n : ℕ) → IsInHand s.frontier n → IsInHand (pruned_by s).frontier n
pruned_in_hand s n is = by (value_found s.found)
  where
    by : (value : Option ℤ) → IsInHand (pruned_at value s.frontier) n
    by None = is
    by (Some value) = (
      subst (λ k. n < k) (sym (length-map s.frontier.nodes (pruned_node value))) is.0,
      pruned_each value s.frontier.nodes (λ y. y.state ≡ states.InHand) n (λ e low. absurd (cc)) is.1,
    )

-- ---- taking

-- the first open node comes in hand
first_moves : (p : Program) (f : Seen) (visited : List Visited) (found : Option (List ℕ)) (halted : Option ℤ) (hand : List ℕ) (level : ℤ) (n : ℕ) (opened : List ℕ)
    → n < length f.nodes → (node_at f.nodes n).state ≡ states.Open → IsMoved p f (taken_from f.room f.nodes (n ∷ opened)) visited found halted halted hand (n ∷ hand) level
first_moves p f visited found halted hand level n opened there is =
    let x : Node = record (node_at f.nodes n) { state = states.InHand } in
    let was : IsLeafState (node_at f.nodes n).state = subst IsLeafState (sym is) tt in
    let kept : AreLeavesKept f.nodes (slice_set f.nodes n x) = kept_set f.nodes n x there refl tt was in
    record {
      kept = kept;
      room = refl;
      leaves = λ i there_i leaf. set_by f.nodes n x there refl tt was (λ k y. IsLeafKept p level found halted (node_at f.nodes k) (visited_at visited k) → IsLeafKept p level found halted y (visited_at visited k)) i
          (λ e is. record { most = is.most; stands = tt; held = is.held }) (λ ne is. is) leaf;
      in_hand = λ m is named. set_by f.nodes n x there refl tt was (λ k y. y.state ≡ states.InHand → ((node_at f.nodes k).state ≡ states.InHand → In k hand) → In k (n ∷ hand)) m
          (λ e is named. inl e) (λ ne is named. inr (named is)) is named;
      halt = λ h. halt_kept f.nodes (slice_set f.nodes n x) visited halted kept h;
    }

pub taken_keeps : (p : Program) (s : Search) (hand : List ℕ) (level : ℤ) (n : ℕ) (opened : List ℕ) → n < length s.frontier.nodes → (node_at s.frontier.nodes n).state ≡ states.Open
    → IsSearch p s hand level → IsSearch p (record s { frontier = taken_from s.frontier.room s.frontier.nodes (n ∷ opened) }) (n ∷ hand) level
taken_keeps p s hand level n opened there is search =
    moved_search p s (taken_from s.frontier.room s.frontier.nodes (n ∷ opened)) s.halted hand (n ∷ hand) level
    (first_moves p s.frontier s.visited (counts_found s.found) s.halted hand level n opened there is) search

pub taken_budget : (s : Search) → budget_of (with_taken s) ≡ budget_of s
taken_budget s = by s.frontier.opened
  where
    by : (opened : List ℕ) → (taken_from s.frontier.room s.frontier.nodes opened).room + length (taken_from s.frontier.room s.frontier.nodes opened).nodes ≡ budget_of s
    by [] = refl
    by (n ∷ ns) = ap (λ k. s.frontier.room + k) (length-set s.frontier.nodes n _)
