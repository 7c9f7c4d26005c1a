-- What a search that has ended leaves, and what a program's numbers must keep.
use Rattle.std.specs.Prelude.{◌≡◌, ◌<◌, ◌^◌, ℕ, ℤ, pos, nat_abs, ◌*ℤ◌, ◌≤ℤ◌, List, map, ◌⊎◌}
use Rattle.pc_num.specs.declared.Frac.{Frac}
use Rattle.pc_program_bound.specs.declared.program.Program.{Program}
use Rattle.pc_program_bound.specs.Sums.{sum_below, nat_at, int_at}
use Rattle.pc_program_bound.specs.Allocation.{cells_of}
use Rattle.pc_frontier.specs.Frontier.{Seen}
use Rattle.pc_frontier.specs.Boxes.{Grown, leaf, split, IsLeaf}
use Rattle.pc_branch.specs.declared.visited.Visited.{Visited}
use Rattle.pc_branch.specs.Grown.{visited_at, IsStuckKnown, IsParted, IsPartedAt}

-- a leaf of the bound e that could not be split: its steps ended in no point, or there is no room
pub record IsLeft (f : Seen) (visited : List Visited) (e : ℤ) (n : ℕ) : Type 0 where
  pub leaf : IsLeaf f.nodes n
  pub bound : (visited_at visited n).bound ≡ e
  pub why : IsStuckKnown (visited_at visited n).known ⊎ (IsParted (visited_at visited n).known × (f.room < 2))

-- the counts of a whole point
abbrev pub whole_counts : List Frac → List ℕ
whole_counts point = map (λ (count : Frac). nat_abs count.num) point

-- a gain has fewer than 88 bits, and the greatest worth of all cells together is at most 10^37
pub record HasSmallGains (p : Program) : Type 0 where
  pub gains : (i : ℕ) → i < cells_of p → nat_abs (int_at p.gain i) < 2 ^ 87
  pub sum : sum_below (cells_of p) (λ i. pos (nat_abs (int_at p.gain i)) *ℤ pos (nat_at p.cap i)) ≤ℤ pos (10 ^ 37)

-- each split is at the cell and the number that its node names
abbrev pub AreSplitsKnown : List Visited → Grown → Type 0
AreSplitsKnown visited (leaf n) = Unit {0}
AreSplitsKnown visited (split n cell at t u) = IsPartedAt cell at (visited_at visited n).known × AreSplitsKnown visited t × AreSplitsKnown visited u
