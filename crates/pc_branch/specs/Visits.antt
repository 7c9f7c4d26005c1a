-- What visiting a box gives, and the two parts of a node's box.
use Rattle.std.specs.Prelude.{◌≡◌, ◌<◌, ◌≤◌, ℕ, ℤ, List, [], ◌∷◌, ◌++◌, length, Option, None, MatchOption}
use Rattle.std.specs.Prelude.{pos}
use Rattle.std.specs.Int.{int_div_euclid}
use Rattle.pc_num.specs.declared.Frac.{Frac}
use Rattle.pc_model.specs.declared.tree.Mult.{Mult}
use Rattle.pc_program_bound.specs.declared.program.Program.{Program}
use Rattle.pc_program_bound.specs.Allocation.{IsAllocation, worth, cells_of}
use Rattle.pc_program_bound.specs.SplitTrees.{less_caps, more_floors}
use Rattle.pc_simplex.specs.Vertices.{count_at}
use Rattle.pc_frontier.specs.Frontier.{Seen, with_root, with_split}
use Rattle.pc_frontier.specs.Boxes.{Box, box_at, number_at}
use Rattle.pc_branch.specs.declared.visited.Known.{Known}
use Rattle.pc_branch.specs.declared.visited.Known.TheVariants as knowns
use Rattle.pc_branch.specs.declared.visit.Visit.{Visit}
use Rattle.pc_branch.specs.declared.search.Search.{Search}
use Rattle.pc_branch.specs.Grown.{visited_at, IsVisited}
use Rattle.pc_branch.specs.Searching.{start_of}
use Rattle.pc_branch.specs.Steps.{better}

-- an allocation of the box that is worth so much
abbrev pub IsWorth : Program → List ℕ → List ℕ → ℤ → List ℕ → Type 0
IsWorth p floors caps bound counts = IsAllocation p floors caps counts × (worth p counts ≡ bound)

-- a whole point has its counts, and no other has some
abbrev pub HasCountsAs : Program → List ℕ → List ℕ → Known → ℤ → Option (List ℕ) → Type 0
HasCountsAs p floors caps knowns.Whole bound counts = MatchOption counts ⊥ (IsWorth p floors caps bound)
HasCountsAs p floors caps knowns.Nothing bound counts = counts ≡ None
HasCountsAs p floors caps (knowns.Parted cell at) bound counts = counts ≡ None
HasCountsAs p floors caps knowns.Stuck bound counts = counts ≡ None

abbrev pub HasCounts : Program → List ℕ → List ℕ → Visit → Type 0
HasCounts p floors caps v = HasCountsAs p floors caps v.node.known v.node.bound v.counts

abbrev pub box_of : Program → Search → ℕ → Box
box_of p s n = box_at s.frontier.nodes (start_of p) n

-- the two parts of a node's box, as they were visited
pub record ArePartsVisited (p : Program) (s : Search) (n cell at : ℕ) (less more : Visit) : Type 0 where
  pub inside : cell < cells_of p
  pub low : number_at (box_of p s n).floors cell ≤ at
  pub high : at < number_at (box_of p s n).caps cell
  pub less_visited : IsVisited p (visited_at s.visited n).mult (visited_at s.visited n).bound (box_of p s n).floors (less_caps (box_of p s n).caps cell at) less.node
  pub less_counts : HasCounts p (box_of p s n).floors (less_caps (box_of p s n).caps cell at) less
  pub more_visited : IsVisited p (visited_at s.visited n).mult (visited_at s.visited n).bound (more_floors (box_of p s n).floors cell at) (box_of p s n).caps more.node
  pub more_counts : HasCounts p (more_floors (box_of p s n).floors cell at) (box_of p s n).caps more

-- the node is split and the parts are its children, whose whole points may be the best that was found
abbrev pub with_parts : ℕ → ℕ → ℕ → Visit → Visit → Search → Search
with_parts n cell at less more s = record s {
  frontier = with_split n cell at s.frontier;
  visited = (s.visited ++ less.node ∷ []) ++ more.node ∷ [];
  found = better more.counts more.node.bound (better less.counts less.node.bound s.found);
}

-- the start box is the root, and its whole point the best that was found
abbrev pub rooted : Visit → Seen → Search
rooted root f = record { frontier = with_root f; visited = root.node ∷ []; found = better root.counts root.node.bound None; halted = None }

-- ---- points

-- the count of the cell is not whole
abbrev pub IsBroken : List Frac → ℕ → Type 0
IsBroken point cell = (cell < length point) × ((count_at point cell).den ≡ pos 1 → ⊥)

-- all counts before a place are whole
abbrev pub AreWholeBelow : List Frac → ℕ → Type 0
AreWholeBelow point n = (i : ℕ) → i < n → (count_at point i).den ≡ pos 1

-- the node is parted at the cell and its count, rounded down
pub record IsPartingVisit (point : List Frac) (cell : ℕ) (mult : Mult) (bound : ℤ) (v : Visit) : Type 0 where
  pub at : ℕ
  pub rounded : pos at ≡ int_div_euclid (count_at point cell).num (count_at point cell).den
  pub node : v.node ≡ record { known = knowns.Parted cell at; mult = mult; bound = bound }
  pub counts : v.counts ≡ None
