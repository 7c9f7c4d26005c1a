-- The tree of a search while it grows: what is known of each of its nodes, by number.
use Rattle.std.specs.Prelude.{◌≡◌, ◌<◌, ◌≤◌, ℕ, ℤ, pos, List, [], slice_index_or, Option, Some, None, ⊤}
use Rattle.pc_num.specs.declared.Frac.{Frac}
use Rattle.pc_model.specs.declared.tree.Mult.{Mult}
use Rattle.pc_program_bound.specs.declared.program.Program.{Program}
use Rattle.pc_program_bound.specs.Sums.{nat_at}
use Rattle.pc_program_bound.specs.Allocation.{cells_of}
use Rattle.pc_program_bound.specs.Bound.{bound_of}
use Rattle.pc_program_bound.specs.SplitTrees.{SplitTree, less_caps, more_floors}
use Rattle.pc_program_bound.specs.SplitTrees as trees
use Rattle.pc_simplex_tableau.specs.Point.{Relaxation, vertex, void, IsRelaxation}
use Rattle.pc_simplex.specs.Vertices.{IsFitMult}
use Rattle.pc_frontier.specs.Boxes.{Grown, leaf, split}
use Rattle.pc_branch.specs.Licence.{IsStuck, IsWhole, IsSplitOf}
use Rattle.pc_branch.specs.declared.visited.Known.{Known}
use Rattle.pc_branch.specs.declared.visited.Known.TheVariants as knowns
use Rattle.pc_branch.specs.declared.visited.Visited.{Visited}

abbrev pub no_visited : Visited
no_visited = record { known = knowns.Nothing; mult = record { by = []; den = pos 0 }; bound = pos 0 }

abbrev pub visited_at : List Visited → ℕ → Visited
visited_at visited n = slice_index_or visited n no_visited

-- ---- what is known of a box

-- the steps end in a point that is not whole at the cell
pub record IsParting (p : Program) (floors caps : List ℕ) (cell at : ℕ) (mult : Mult) (bound : ℤ) : Type 0 where
  pub point : List Frac
  pub relaxed : IsRelaxation p floors caps (vertex point mult)
  pub parted : IsSplitOf point cell at
  pub inside : cell < cells_of p
  pub bound_is : bound ≡ bound_of p floors caps mult

-- the steps end in a whole point
pub record IsWholeEnd (p : Program) (floors caps : List ℕ) (mult : Mult) (bound : ℤ) : Type 0 where
  pub point : List Frac
  pub relaxed : IsRelaxation p floors caps (vertex point mult)
  pub whole : IsWhole point
  pub bound_is : bound ≡ bound_of p floors caps mult

-- the steps end in no point, so that the multipliers and the bound are the parent's
pub record IsHalt (p : Program) (above : Mult) (limit : ℤ) (floors caps : List ℕ) (mult : Mult) (bound : ℤ) : Type 0 where
  pub relaxation : Relaxation
  pub relaxed : IsRelaxation p floors caps relaxation
  pub stuck : IsStuck relaxation
  pub mult_is : mult ≡ above
  pub bound_is : bound ≡ limit

abbrev pub IsKnownAs : Program → Mult → ℤ → List ℕ → List ℕ → Known → Mult → ℤ → Type 0
IsKnownAs p above limit floors caps knowns.Nothing mult bound = IsRelaxation p floors caps (void mult)
IsKnownAs p above limit floors caps knowns.Whole mult bound = IsWholeEnd p floors caps mult bound
IsKnownAs p above limit floors caps (knowns.Parted cell at) mult bound = IsParting p floors caps cell at mult bound
IsKnownAs p above limit floors caps knowns.Stuck mult bound = IsHalt p above limit floors caps mult bound

-- what a node says is so in its box; `above` are its parent's multipliers and `limit` is the bound that they prove there
pub record IsVisited (p : Program) (above : Mult) (limit : ℤ) (floors caps : List ℕ) (v : Visited) : Type 0 where
  pub known : IsKnownAs p above limit floors caps v.known v.mult v.bound
  pub fits : IsFitMult v.mult

abbrev pub IsParted : Known → Type 0
IsParted (knowns.Parted cell at) = ⊤
IsParted knowns.Nothing = ⊥
IsParted knowns.Whole = ⊥
IsParted knowns.Stuck = ⊥

abbrev pub IsStuckKnown : Known → Type 0
IsStuckKnown knowns.Stuck = ⊤
IsStuckKnown (knowns.Parted cell at) = ⊥
IsStuckKnown knowns.Nothing = ⊥
IsStuckKnown knowns.Whole = ⊥

-- a split is at the cell and the number that its node names
abbrev pub IsPartedAt : ℕ → ℕ → Known → Type 0
IsPartedAt cell at (knowns.Parted c a) = (c ≡ cell) × (a ≡ at)
IsPartedAt cell at knowns.Nothing = ⊥
IsPartedAt cell at knowns.Whole = ⊥
IsPartedAt cell at knowns.Stuck = ⊥

-- the greatest worth that a node leaves possible, if it leaves any
abbrev pub value_as : Known → ℤ → Option ℤ
value_as (knowns.Parted cell at) bound = Some bound
value_as knowns.Whole bound = Some bound
value_as knowns.Stuck bound = Some bound
value_as knowns.Nothing bound = None

abbrev pub value_of : Visited → Option ℤ
value_of v = value_as v.known v.bound

-- ---- the tree

-- each node is visited, and each split is where its node says
abbrev pub IsGrown : Program → List Visited → Mult → ℤ → List ℕ → List ℕ → Grown → Type 0
IsGrown p visited above limit floors caps (leaf n) = IsVisited p above limit floors caps (visited_at visited n)
IsGrown p visited above limit floors caps (split n cell at t u) =
    IsVisited p above limit floors caps (visited_at visited n) × IsPartedAt cell at (visited_at visited n).known × (nat_at floors cell ≤ at) × (at < nat_at caps cell)
    × IsGrown p visited (visited_at visited n).mult (visited_at visited n).bound floors (less_caps caps cell at) t
    × IsGrown p visited (visited_at visited n).mult (visited_at visited n).bound (more_floors floors cell at) caps u

-- ---- the answered tree

abbrev pub leaf_as : Known → Mult → SplitTree
leaf_as knowns.Nothing mult = trees.void mult
leaf_as knowns.Whole mult = trees.bound mult
leaf_as (knowns.Parted cell at) mult = trees.bound mult
leaf_as knowns.Stuck mult = trees.bound mult

abbrev pub leaf_of : Visited → SplitTree
leaf_of v = leaf_as v.known v.mult

abbrev pub proof_of : List Visited → Grown → SplitTree
proof_of visited (leaf n) = leaf_of (visited_at visited n)
proof_of visited (split n cell at t u) = trees.split cell at (proof_of visited t) (proof_of visited u)
