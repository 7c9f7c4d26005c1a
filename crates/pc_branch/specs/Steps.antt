-- What each step of a search makes of what the search keeps.
use Rattle.std.specs.Prelude.{◌≡◌, ℕ, ◌+◌, ℤ, ◌<ℤ◌, int_le, int_lt, Bool, true, false, cond, not, ◌&&◌, ◌||◌, List, [], ◌∷◌, length, Option, Some, None, MatchOption, ⊤}
use Rattle.std.specs.Int.{int_max}
use Rattle.pc_program_bound.specs.declared.program.Program.{Program}
use Rattle.pc_program_bound.specs.Allocation.{worth}
use Rattle.pc_program_bound.specs.SplitTrees.{IsWithin}
use Rattle.pc_frontier.specs.Frontier.{Seen, bound_at, held, closed, pruned, taken, best_of, IsInHand}
use Rattle.pc_frontier.specs.Boxes.{IsLeaf}
use Rattle.pc_branch.specs.declared.visited.Known.{Known}
use Rattle.pc_branch.specs.declared.visited.Known.TheVariants as knowns
use Rattle.pc_model.specs.declared.tree.Tree.{Tree}
use Rattle.pc_branch.specs.declared.outcome.Outcome.{Outcome}
use Rattle.pc_branch.specs.declared.outcome.Outcome.TheVariants.{Best, Nothing, Spent}
use Rattle.pc_branch.specs.declared.search.Found.{Found}
use Rattle.pc_branch.specs.declared.search.Hand.{Hand}
use Rattle.pc_branch.specs.declared.search.Search.{Search}
use Rattle.pc_branch.specs.declared.visited.Visited.{Visited}
use Rattle.pc_branch.specs.Grown.{visited_at, value_of, IsParted}
use Rattle.pc_branch.specs.Searching.{IsSearching, closed_at}

-- ---- what was found

abbrev pub counts_found : Option Found → Option (List ℕ)
counts_found None = None
counts_found (Some found) = Some found.counts

abbrev pub value_found : Option Found → Option ℤ
value_found None = None
value_found (Some found) = Some found.value

-- what was found is worth so much
abbrev pub is_worth : Option Found → ℤ → Bool
is_worth None value = false
is_worth (Some found) value = int_le value found.value

abbrev pub better : Option (List ℕ) → ℤ → Option Found → Option Found
better None value found = found
better (Some counts) value found = cond (is_worth found value) found (Some (record { counts = counts; value = value }))

abbrev pub considered : Option (List ℕ) → ℤ → Search → Search
considered counts value s = record s { found = better counts value s.found }

-- ---- a node is let go

abbrev pub raised : Option ℤ → ℤ → Option ℤ
raised None other = Some other
raised (Some bound) other = Some (int_max bound other)

abbrev pub settled_as : Known → ℤ → ℕ → Search → Search
settled_as (knowns.Parted cell at) bound node s = record s { frontier = held node bound s.frontier }
settled_as knowns.Stuck bound node s = record s { frontier = closed node s.frontier; halted = raised s.halted bound }
settled_as knowns.Nothing bound node s = record s { frontier = closed node s.frontier }
settled_as knowns.Whole bound node s = record s { frontier = closed node s.frontier }

abbrev pub settled : ℕ → Search → Search
settled node s = settled_as (visited_at s.visited node).known (visited_at s.visited node).bound node s

abbrev pub pruned_at : Option ℤ → Seen → Seen
pruned_at None f = f
pruned_at (Some value) f = pruned value f

abbrev pub pruned_by : Search → Search
pruned_by s = record s { frontier = pruned_at (value_found s.found) s.frontier }

-- ---- the next node

abbrev pub hand_of : (ℕ → ℤ) → List ℕ → Option Hand
hand_of bounds [] = None
hand_of bounds (n ∷ ns) = Some (record { node = n; bound = bounds n })

abbrev pub next_hand : Seen → Option Hand
next_hand f = hand_of (bound_at f.nodes) f.opened

abbrev pub with_taken : Search → Search
with_taken s = record s { frontier = taken s.frontier }

-- ---- what is kept

-- the worth that is noted is that of the counts
abbrev pub IsValued : Program → Option Found → Type 0
IsValued p found = MatchOption found ⊤ (λ x. worth p x.counts ≡ x.value)

abbrev pub budget_of : Search → ℕ
budget_of s = s.frontier.room + length s.frontier.nodes

-- the search as it is kept in code, with these nodes in hand
pub record IsSearch (p : Program) (s : Search) (hand : List ℕ) (level : ℤ) : Type 0 where
  pub search : IsSearching p (budget_of s) s.frontier s.visited (counts_found s.found) s.halted hand level
  pub valued : IsValued p s.found

-- a node in hand that can be split, whose bound is the level and above what was found
pub record IsGoing (p : Program) (s : Search) (hand : Hand) : Type 0 where
  pub search : IsSearch p s (hand.node ∷ []) hand.bound
  pub in_hand : IsInHand s.frontier hand.node
  pub parted : IsParted (visited_at s.visited hand.node).known
  pub bound : (visited_at s.visited hand.node).bound ≡ hand.bound
  pub above : MatchOption (value_found s.found) ⊤ (λ value. value <ℤ hand.bound)

-- no leaf leads to more than what was found or what was halted
pub record IsOver (p : Program) (s : Search) : Type 0 where
  pub hand : List ℕ
  pub level : ℤ
  pub search : IsSearch p s hand level
  pub under : (n : ℕ) → IsLeaf s.frontier.nodes n → MatchOption (value_of (visited_at s.visited n)) ⊤ (λ x. IsWithin x (closed_at p (counts_found s.found) s.halted))

abbrev pub IsAt : Program → Search → Option Hand → Type 0
IsAt p s None = IsOver p s
IsAt p s (Some hand) = IsGoing p s hand

-- two nodes in hand, those that a split made
pub record IsDivided (p : Program) (s : Search) (first : ℕ) (level : ℤ) : Type 0 where
  pub search : IsSearch p s (first ∷ (first + 1) ∷ []) level
  pub less : IsInHand s.frontier first
  pub more : IsInHand s.frontier (first + 1)

-- ---- which node is next

abbrev pub is_parted : Known → Bool
is_parted (knowns.Parted cell at) = true
is_parted knowns.Nothing = false
is_parted knowns.Whole = false
is_parted knowns.Stuck = false

abbrev pub is_above : Option ℤ → ℤ → Bool
is_above None bound = false
is_above (Some most) bound = int_lt bound most

-- the node in hand, where it can be split and no open node has a greater bound
abbrev pub kept_hand : ℕ → Search → Option Hand
kept_hand node s = cond (is_parted (visited_at s.visited node).known && not (is_above (best_of s.frontier.nodes s.frontier.opened) (visited_at s.visited node).bound))
    (Some (record { node = node; bound = (visited_at s.visited node).bound })) None

-- nothing more is to be had from a node of that bound, which is the greatest
abbrev pub is_over : Search → ℤ → Bool
is_over s bound = is_worth s.found bound || is_above s.halted bound

abbrev pub unless_over : Search → Hand → Option Hand
unless_over s hand = cond (is_over s hand.bound) None (Some hand)

-- the first of two children can be split, and the other cannot or has the lesser bound
abbrev pub is_better : List Visited → ℕ → Bool
is_better visited first =
    is_parted (visited_at visited first).known
    && (not (is_parted (visited_at visited (first + 1)).known) || int_lt (visited_at visited (first + 1)).bound (visited_at visited first).bound)

-- a node that is found, unless the search is over
abbrev pub hand_unless : Search → Option Hand → Option Hand
hand_unless s None = None
hand_unless s (Some hand) = unless_over s hand

-- the best open node is taken, after a node in hand was let go
abbrev pub let_go : ℕ → Search → Search
let_go node s = with_taken (settled node s)

abbrev pub state_by : Option Hand → ℕ → Search → Search
state_by (Some hand) node s = s
state_by None node s = let_go node s

abbrev pub hand_by : Option Hand → ℕ → Search → Option Hand
hand_by (Some hand) node s = unless_over s hand
hand_by None node s = hand_unless (let_go node s) (next_hand (settled node s).frontier)

-- what picking the next node makes of a search with a node in hand, and that node
abbrev pub picked_state : ℕ → Search → Search
picked_state node s = state_by (kept_hand node (pruned_by s)) node (pruned_by s)

abbrev pub picked_hand : ℕ → Search → Option Hand
picked_hand node s = hand_by (kept_hand node (pruned_by s)) node (pruned_by s)

-- the child that is let go first, and the one that is gone on with
abbrev pub other_child : List Visited → ℕ → ℕ
other_child visited first = cond (is_better visited first) (first + 1) first

abbrev pub wanted_child : List Visited → ℕ → ℕ
wanted_child visited first = cond (is_better visited first) first (first + 1)

-- ---- what an ended search answers

abbrev pub best_of_found : Option Found → Tree → Outcome
best_of_found (Some found) tree = Best found.counts found.value tree
best_of_found None tree = Nothing tree

abbrev pub over_of : Option Found → Option ℤ → Tree → Outcome
over_of found None tree = best_of_found found tree
over_of found (Some bound) tree = cond (is_worth found bound) (best_of_found found tree) (Spent bound (counts_found found) tree)

abbrev pub outcome_of : Option Hand → Option Found → Option ℤ → Tree → Outcome
outcome_of (Some hand) found halted tree = Spent hand.bound (counts_found found) tree
outcome_of None found halted tree = over_of found halted tree
