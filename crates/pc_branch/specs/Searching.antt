-- What the search keeps from one split to the next.
use Rattle.std.specs.Prelude.{◌≡◌, ◌<◌, ℕ, ◌+◌, ℤ, ◌≤ℤ◌, List, length, Option, Some, None, MatchOption, ⊤}
use Rattle.pc_program_bound.specs.declared.program.Program.{Program}
use Rattle.pc_program_bound.specs.Allocation.{worth, IsAllocation}
use Rattle.pc_program_bound.specs.SplitTrees.{greater, IsWithin}
use Rattle.pc_frontier.specs.declared.node.State.{State}
use Rattle.pc_frontier.specs.declared.node.State.TheVariants as states
use Rattle.pc_frontier.specs.declared.node.Node.{Node}
use Rattle.pc_frontier.specs.Rings.{In}
use Rattle.pc_frontier.specs.Frontier.{Seen, node_at}
use Rattle.pc_frontier.specs.Boxes.{Box, Grown, IsTree, IsLeaf, AreFitting}
use Rattle.pc_branch.specs.Licence.{no_multipliers, first_bound}
use Rattle.pc_branch.specs.declared.visited.Known.{Known}
use Rattle.pc_branch.specs.declared.visited.Known.TheVariants as knowns
use Rattle.pc_branch.specs.declared.visited.Visited.{Visited}
use Rattle.pc_branch.specs.Grown.{visited_at, value_of, IsParted, IsStuckKnown, IsGrown}

-- what was found is worth, where something was found
abbrev pub worth_found : Program → Option (List ℕ) → Option ℤ
worth_found p None = None
worth_found p (Some counts) = Some (worth p counts)

-- the greatest value that a closed leaf may have: that of what was found, or of a leaf where the steps ended in no point
abbrev pub closed_at : Program → Option (List ℕ) → Option ℤ → Option ℤ
closed_at p found halted = greater (worth_found p found) halted

abbrev pub IsAtMost : Option ℤ → ℤ → Type 0
IsAtMost value level = MatchOption value ⊤ (λ x. x ≤ℤ level)

-- an open leaf can be split and has its bound in the frontier, and a closed one has no value above what may be closed
abbrev pub StandsAs : Option ℤ → State → ℤ → Visited → Type 0
StandsAs closed states.Open bound v = IsParted v.known × (v.bound ≡ bound)
StandsAs closed states.Closed bound v = MatchOption (value_of v) ⊤ (λ x. IsWithin x closed)
StandsAs closed states.InHand bound v = ⊤
StandsAs closed (states.Split first) bound v = ⊤

-- a whole point is worth at most what was found
abbrev pub IsHeldAs : Program → Option (List ℕ) → Known → ℤ → Type 0
IsHeldAs p found knowns.Whole bound = MatchOption found ⊥ (λ counts. bound ≤ℤ worth p counts)
IsHeldAs p found (knowns.Parted cell at) bound = ⊤
IsHeldAs p found knowns.Nothing bound = ⊤
IsHeldAs p found knowns.Stuck bound = ⊤

pub record IsLeafKept (p : Program) (level : ℤ) (found : Option (List ℕ)) (halted : Option ℤ) (node : Node) (v : Visited) : Type 0 where
  pub most : IsAtMost (value_of v) level
  pub stands : StandsAs (closed_at p found halted) node.state node.bound v
  pub held : IsHeldAs p found v.known v.bound

abbrev pub IsSplitState : State → Type 0
IsSplitState (states.Split first) = ⊤
IsSplitState states.Open = ⊥
IsSplitState states.InHand = ⊥
IsSplitState states.Closed = ⊥

abbrev pub IsSplit : List Node → ℕ → Type 0
IsSplit nodes n = (n < length nodes) × IsSplitState (node_at nodes n).state

-- an allocation that is worth at most the level
abbrev pub IsFound : Program → ℤ → Option (List ℕ) → Type 0
IsFound p level found = MatchOption found ⊤ (λ counts. IsAllocation p p.floor p.cap counts × (worth p counts ≤ℤ level))

-- a leaf where the steps ended in no point
pub record IsHaltedAt (nodes : List Node) (visited : List Visited) (e : ℤ) (n : ℕ) : Type 0 where
  pub leaf : IsLeaf nodes n
  pub stuck : IsStuckKnown (visited_at visited n).known
  pub bound : (visited_at visited n).bound ≡ e

abbrev pub IsHalted : List Node → List Visited → Option ℤ → Type 0
IsHalted nodes visited halted = MatchOption halted ⊤ (λ e. (n : ℕ) × IsHaltedAt nodes visited e n)

abbrev pub start_of : Program → Box
start_of p = record { floors = p.floor; caps = p.cap }

-- The frontier's nodes are a tree, and each is visited. No leaf's value is above the level, and no split's bound below it.
-- Only the nodes that are named are in hand.
pub record IsSearching (p : Program) (budget : ℕ) (f : Seen) (visited : List Visited) (found : Option (List ℕ)) (halted : Option ℤ) (hand : List ℕ) (level : ℤ) : Type 0 where
  pub tree : Grown
  pub is_tree : IsTree f.nodes tree
  pub fit : AreFitting f.nodes (start_of p)
  pub long : length visited ≡ length f.nodes
  pub room : f.room + length f.nodes ≡ budget
  pub grown : IsGrown p visited (no_multipliers p) (first_bound p) p.floor p.cap tree
  pub leaves : (n : ℕ) → IsLeaf f.nodes n → IsLeafKept p level found halted (node_at f.nodes n) (visited_at visited n)
  pub splits : (n : ℕ) → IsSplit f.nodes n → level ≤ℤ (visited_at visited n).bound
  pub in_hand : (n : ℕ) → n < length f.nodes → (node_at f.nodes n).state ≡ states.InHand → In n hand
  pub allowed : IsFound p level found
  pub halt : IsHalted f.nodes visited halted
