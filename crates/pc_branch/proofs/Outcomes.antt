-- What a search answers once it is over or has no room.
use Rattle.std.proofs.Common.{◌≡◌, ◌<◌, ℕ, true, false, List, Option, Some, None, refl, sym, ap, ◌∙◌, subst, arith, inl, inr, MatchOption}
use Rattle.std.specs.Prelude.{ℤ, ◌≤ℤ◌, ◌<ℤ◌, int_le}
use Rattle.std.specs.Bool.{⊤}
use Rattle.std.proofs.lemmas.Int.{ints, clamps}
use Rattle.std.proofs.lemmas.Bool.{cond_both}
use Rattle.pc_model.specs.declared.tree.Mult.{Mult}
use Rattle.pc_model.specs.declared.tree.Tree.{Tree}
use Rattle.pc_program_bound.specs.declared.program.Program.{Program}
use Rattle.pc_program_bound.specs.Allocation.{IsProgram, worth}
use Rattle.pc_program_bound.specs.Bound.{HasFitWidth}
use Rattle.pc_program_bound.specs.SplitTrees.{SplitTree, IsInPreorder, IsWithin, tree_of, nodes_from, greater, less_caps, more_floors}
use Rattle.pc_program_bound.proofs.TreeNodes.{tree_of-nodes}
use Rattle.pc_frontier.specs.Frontier.{Seen}
use Rattle.pc_frontier.specs.Boxes.{Grown, leaf, split, IsTree, IsLeaf}
use Rattle.pc_branch.specs.Licence.{no_multipliers, first_bound}
use Rattle.pc_branch.specs.Outcome.{IsBest, IsNothing, IsSpent, IsOutcome}
use Rattle.pc_branch.specs.declared.outcome.Outcome.TheVariants.{Spent}
use Rattle.pc_branch.specs.declared.visited.Known.{Known}
use Rattle.pc_branch.specs.declared.visited.Known.TheVariants as knowns
use Rattle.pc_branch.specs.declared.visited.Visited.{Visited}
use Rattle.pc_branch.specs.declared.search.Found.{Found}
use Rattle.pc_branch.specs.declared.search.Hand.{Hand}
use Rattle.pc_branch.specs.declared.search.Search.{Search}
use Rattle.pc_branch.specs.Grown.{visited_at, value_as, value_of, IsStuckKnown, IsGrown, proof_of}
use Rattle.pc_branch.specs.Searching.{IsSearching, IsAtMost, IsFound, closed_at}
use Rattle.pc_branch.specs.Ends.{AreSplitsKnown}
use Rattle.pc_branch.specs.Steps.{counts_found, value_found, budget_of, IsValued, IsGoing, IsAt, best_of_found, outcome_of, over_of}
use Rattle.pc_branch.proofs.Parting.{hand_leaf}
use Rattle.pc_branch.proofs.Levels.{search_best, search_nothing}
use Rattle.pc_branch.proofs.Lefts.{search_left}

-- ---- the answered tree

splits_known : (p : Program) (visited : List Visited) (g : Grown) (above : Mult) (limit : ℤ) (floors caps : List ℕ) → IsGrown p visited above limit floors caps g → AreSplitsKnown visited g
splits_known p visited (leaf n) above limit floors caps grown = tt
splits_known p visited (split n cell at t u) above limit floors caps grown = (
  grown.1,
  splits_known p visited t (visited_at visited n).mult (visited_at visited n).bound floors (less_caps caps cell at) grown.4,
  splits_known p visited u (visited_at visited n).mult (visited_at visited n).bound (more_floors floors cell at) caps grown.5,
)

-- the nodes spell the tree of each search over the frontier's nodes
pub record IsSpelled (f : Seen) (visited : List Visited) (tree : Tree) : Type 0 where
  pub nodes : (g : Grown) → IsTree f.nodes g → AreSplitsKnown visited g → tree.nodes ≡ nodes_from 0 (proof_of visited g)

module _ (p : Program) (budget : ℕ) (f : Seen) (visited : List Visited) (found : Option (List ℕ)) (halted : Option ℤ) (hand : List ℕ) (level : ℤ)
    (s : IsSearching p budget f visited found halted hand level) (tree : Tree) (spelled : IsSpelled f visited tree) where
  -- what holds of the search's tree holds of the one that the nodes spell
  pub spelled_by : (P : SplitTree → Type 0) → P (proof_of visited s.tree) → IsInPreorder tree.nodes × P (tree_of tree.nodes)
  spelled_by P h =
      let e = spelled.nodes s.tree s.is_tree (splits_known p visited s.tree (no_multipliers p) (first_bound p) p.floor p.cap s.grown) in
      let same : tree_of tree.nodes ≡ proof_of visited s.tree = ap tree_of e ∙ tree_of-nodes (proof_of visited s.tree) in
      (e ∙ sym (ap (nodes_from 0) same), subst P (sym same) h)

  -- the level comes down to one that no leaf's value and nothing found is above
  pub lowered_to : (low : ℤ) → low ≤ℤ level → IsFound p low found → ((n : ℕ) → IsLeaf f.nodes n → IsAtMost (value_of (visited_at visited n)) low)
      → IsSearching p budget f visited found halted hand low
  lowered_to low down allowed most = record {
    tree = s.tree;
    is_tree = s.is_tree;
    fit = s.fit;
    long = s.long;
    room = s.room;
    grown = s.grown;
    leaves = λ n is. record { most = most n is; stands = (s.leaves n is).stands; held = (s.leaves n is).held };
    splits = λ n is. let above = s.splits n is in omega (arith, ints, down, above);
    in_hand = s.in_hand;
    allowed = allowed;
    halt = s.halt;
  }

-- ---- a node that there is no room to split

below_hand : (p : Program) (found : Option Found) (e : ℤ) → IsValued p found → MatchOption (value_found found) ⊤ (λ value. value <ℤ e)
    → MatchOption (counts_found found) (Unit {0}) (λ counts. worth p counts <ℤ e)
below_hand p None e valued above = tt
below_hand p (Some f) e valued above = omega (arith, ints, valued, above)

pub outcome_left : (p : Program) (s : Search) (hand : Hand) (tree : Tree) → IsProgram p → HasFitWidth p (no_multipliers p) → IsSpelled s.frontier s.visited tree → IsGoing p s hand → s.frontier.room < 2
    → IsInPreorder tree.nodes × IsSpent p (budget_of s) hand.bound (counts_found s.found) (tree_of tree.nodes)
outcome_left p s hand tree program wide spelled going few =
    spelled_by p (budget_of s) s.frontier s.visited (counts_found s.found) s.halted _ hand.bound going.search.search tree spelled
    (λ t. IsSpent p (budget_of s) hand.bound (counts_found s.found) t)
    (search_left p (budget_of s) s.frontier s.visited (counts_found s.found) s.halted _ hand.bound going.search.search hand.node program wide
    (record { leaf = hand_leaf s.frontier.nodes hand.node going.in_hand.0 going.in_hand.1; bound = going.bound; why = inr (going.parted, few) })
    (below_hand p s.found hand.bound going.search.valued going.above))

-- ---- a search that is over

no_value : (value : Option ℤ) → MatchOption value ⊤ (λ x. ⊥) → value ≡ None
no_value None h = refl
no_value (Some x) h = absurd h

most_of : (value closed : Option ℤ) (low : ℤ) → MatchOption value ⊤ (λ x. IsWithin x closed) → ((x : ℤ) → IsWithin x closed → x ≤ℤ low) → IsAtMost value low
most_of None closed low h k = tt
most_of (Some x) closed low h k = k x h

within_worth : (x w e v : ℤ) → w ≡ v → int_le e v ≡ true → IsWithin x (greater (Some w) (Some e)) → x ≤ℤ w
within_worth x w e v same is h =
    let most : e ≤ℤ v = grind (arith, ints, is) in
    omega (arith, ints, clamps, h, most, same)

under_worth : (w e v : ℤ) → w ≡ v → int_le e v ≡ false → w <ℤ e
under_worth w e v same is =
    let less : v <ℤ e = grind (arith, ints, is) in
    omega (arith, ints, less, same)

stuck_value : (known : Known) (bound level : ℤ) → IsStuckKnown known → IsAtMost (value_as known bound) level → bound ≤ℤ level
stuck_value knowns.Stuck bound level is h = h
stuck_value (knowns.Parted cell at) bound level is h = absurd is
stuck_value knowns.Nothing bound level is h = absurd is
stuck_value knowns.Whole bound level is h = absurd is

module _ (p : Program) (program : IsProgram p) (wide : HasFitWidth p (no_multipliers p)) (budget : ℕ) (f : Seen) (visited : List Visited) (hand : List ℕ) (level : ℤ) (tree : Tree) (spelled : IsSpelled f visited tree) where
  -- each leaf's value is within what may be closed
  pub record IsClosed (found : Option (List ℕ)) (halted : Option ℤ) : Type 0 where
    pub under : (n : ℕ) → IsLeaf f.nodes n → MatchOption (value_of (visited_at visited n)) ⊤ (λ x. IsWithin x (closed_at p found halted))

  over_none : IsSearching p budget f visited None None hand level → IsClosed None None → IsOutcome p budget (over_of None None tree)
  over_none s closed =
      spelled_by p budget f visited None None hand level s tree spelled (λ t. IsNothing p budget t)
      (search_nothing p budget f visited None hand level s program wide (λ n is. no_value (value_of (visited_at visited n)) (closed.under n is)))

  over_best : (found : Found) (halted : Option ℤ) → IsSearching p budget f visited (Some found.counts) halted hand level → worth p found.counts ≡ found.value → IsClosed (Some found.counts) halted
      → ((x : ℤ) → IsWithin x (closed_at p (Some found.counts) halted) → x ≤ℤ worth p found.counts)
      → IsInPreorder tree.nodes × IsBest p budget found.counts found.value (tree_of tree.nodes)
  over_best found halted s valued closed low =
      let down = lowered_to p budget f visited (Some found.counts) halted hand level s tree spelled (worth p found.counts) s.allowed.1 (s.allowed.0, omega (arith, ints))
      (λ n is. most_of (value_of (visited_at visited n)) (closed_at p (Some found.counts) halted) (worth p found.counts) (closed.under n is) low) in
      spelled_by p budget f visited (Some found.counts) halted hand (worth p found.counts) down tree spelled (λ t. IsBest p budget found.counts found.value t)
      (subst (λ (v : ℤ). IsBest p budget found.counts v (proof_of visited down.tree)) valued (search_best p budget f visited found.counts halted hand down program wide))

  over_spent : (found : Option (List ℕ)) (e : ℤ) → IsSearching p budget f visited found (Some e) hand level → MatchOption found (Unit {0}) (λ counts. worth p counts <ℤ e) → IsFound p e found
      → IsClosed found (Some e) → ((x : ℤ) → IsWithin x (closed_at p found (Some e)) → x ≤ℤ e)
      → IsInPreorder tree.nodes × IsSpent p budget e found (tree_of tree.nodes)
  over_spent found e s below allowed closed low =
      let n = s.halt.0 in
      let at = s.halt.1 in
      let most = stuck_value (visited_at visited n).known (visited_at visited n).bound level at.stuck (s.leaves n at.leaf).most in
      let bound = at.bound in
      let down = lowered_to p budget f visited found (Some e) hand level s tree spelled e (omega (arith, ints, most, bound)) allowed
      (λ n is. most_of (value_of (visited_at visited n)) (closed_at p found (Some e)) e (closed.under n is) low) in
      spelled_by p budget f visited found (Some e) hand e down tree spelled (λ t. IsSpent p budget e found t)
      (search_left p budget f visited found (Some e) hand e down n program wide (record { leaf = at.leaf; bound = at.bound; why = inl at.stuck }) below)

  pub over_is : (found : Option Found) (halted : Option ℤ) → IsSearching p budget f visited (counts_found found) halted hand level → IsValued p found → IsClosed (counts_found found) halted
      → IsOutcome p budget (over_of found halted tree)
  over_is None None s valued closed = over_none s closed
  over_is None (Some e) s valued closed = over_spent None e s tt tt closed (λ x h. h)
  over_is (Some found) None s valued closed = over_best found None s valued closed (λ x h. h)
  over_is (Some found) (Some e) s valued closed =
      cond_both (int_le e found.value) (best_of_found (Some found) tree) (Spent e (Some found.counts) tree) (IsOutcome p budget)
      (λ is. over_best found (Some e) s valued closed (λ x h. within_worth x (worth p found.counts) e found.value valued is h))
      (λ is.
      let less = under_worth (worth p found.counts) e found.value valued is in
      over_spent (Some found.counts) e s less (s.allowed.0, omega (arith, ints, less)) closed (λ x h. omega (arith, ints, clamps, h, less)))

pub outcome_is : (p : Program) (s : Search) (hand : Option Hand) (tree : Tree) → IsProgram p → HasFitWidth p (no_multipliers p) → IsSpelled s.frontier s.visited tree
    → IsAt p s hand → MatchOption hand ⊤ (λ _. s.frontier.room < 2) → IsOutcome p (budget_of s) (outcome_of hand s.found s.halted tree)
outcome_is p s None tree program wide spelled over few =
    over_is p program wide (budget_of s) s.frontier s.visited over.hand over.level tree spelled s.found s.halted over.search.search over.search.valued (record { under = over.under })
outcome_is p s (Some hand) tree program wide spelled going few = outcome_left p s hand tree program wide spelled going few
