-- What a search that was broken off must show: a tree of splits with an open leaf that the budget leaves no room to split.
use Rattle.std.specs.Prelude.{◌≡◌, ◌<◌, ◌≤◌, ℕ, ◌+◌, ◌*◌, ℤ, pos, ◌≤ℤ◌, List, [], ◌∷◌, replicate, Option, Some, MatchOption, ◌⊎◌, ⊤}
use Rattle.std.specs.Int.{int_div_euclid}
use Rattle.pc_num.specs.declared.Frac.{Frac}
use Rattle.pc_model.specs.declared.tree.Mult.{Mult}
use Rattle.pc_program_bound.specs.declared.program.Program.{Program}
use Rattle.pc_program_bound.specs.Sums.{nat_at}
use Rattle.pc_program_bound.specs.Allocation.{cells_of, constraints_of, worth}
use Rattle.pc_program_bound.specs.Bound.{bound_of}
use Rattle.pc_program_bound.specs.SplitTrees.{less_caps, more_floors}
use Rattle.pc_simplex_tableau.specs.declared.step.Step.{Step}
use Rattle.pc_simplex_tableau.specs.Point.{Relaxation, vertex, void, wide, stalled, IsRelaxation}
use Rattle.pc_simplex.specs.Vertices.{count_at}

-- a tree of splits, with nothing at its leaves
pub data Splits : Type 0 where
  leaf : Splits
  split : (cell at : ℕ) → Splits → Splits → Splits

abbrev pub nodes_of : Splits → ℕ
nodes_of leaf = 1
nodes_of (split cell at less more) = 1 + nodes_of less + nodes_of more

-- ---- points

abbrev pub IsWhole : List Frac → Type 0
IsWhole point = (i : ℕ) → (count_at point i).den ≡ pos 1

-- the point is not whole at the cell, and the number is its count there, rounded down
pub record IsSplitOf (point : List Frac) (cell at : ℕ) : Type 0 where
  pub parted : (count_at point cell).den ≡ pos 1 → ⊥
  pub rounded : pos at ≡ int_div_euclid (count_at point cell).num (count_at point cell).den

-- a relaxation that is wide or stalled
abbrev pub IsStuck : Relaxation → Type 0
IsStuck (vertex point mult) = ⊥
IsStuck (void mult) = ⊥
IsStuck (wide steps) = ⊤
IsStuck (stalled steps) = ⊤

-- ---- split nodes

-- the steps end in a point with such a count, whose value rounded down is at least e where an e is named, and both ranges hold a number
pub record IsSplitNode (p : Program) (least : Option ℤ) (floors caps : List ℕ) (cell at : ℕ) (point : List Frac) (mult : Mult) : Type 0 where
  pub inside : cell < cells_of p
  pub less : nat_at floors cell ≤ at
  pub more : at < nat_at caps cell
  pub relaxed : IsRelaxation p floors caps (vertex point mult)
  pub parted : IsSplitOf point cell at
  pub worthy : MatchOption least ⊤ (λ e. e ≤ℤ bound_of p floors caps mult)

abbrev pub AreSplitNodes : Program → Option ℤ → List ℕ → List ℕ → Splits → Type 0
AreSplitNodes p least floors caps leaf = ⊤
AreSplitNodes p least floors caps (split cell at less more) =
    ((point : List Frac) × (mult : Mult) × IsSplitNode p least floors caps cell at point mult)
    × AreSplitNodes p least floors (less_caps caps cell at) less × AreSplitNodes p least (more_floors floors cell at) caps more

-- a search tree at a budget, for a value or for none
pub record IsSearchTree (p : Program) (budget : ℕ) (least : Option ℤ) (tree : Splits) : Type 0 where
  pub few : nodes_of tree ≤ budget
  pub splits : AreSplitNodes p least p.floor p.cap tree

-- ---- open leaves

-- 0 for each constraint: what a root that is wide or stalled has in place of a parent's multipliers
abbrev pub no_multipliers : Program → Mult
no_multipliers p = record { by = replicate (constraints_of p) (pos 0); den = pos 1 }

-- an open leaf of the bound e: it ends in a point that is not whole and the budget is spent, or it is wide or stalled with its parent's bound
pub data IsOpen (p : Program) (spent : Type 0) (above : ℤ) (floors caps : List ℕ) (e : ℤ) : Type 0 where
  fractional : (point : List Frac) (mult : Mult) → IsRelaxation p floors caps (vertex point mult) → (IsWhole point → ⊥) → spent →
      e ≡ bound_of p floors caps mult → IsOpen p spent above floors caps e
  too_wide : (steps : List Step) → IsRelaxation p floors caps (wide steps) → e ≡ above → IsOpen p spent above floors caps e
  too_long : (steps : List Step) → IsRelaxation p floors caps (stalled steps) → e ≡ above → IsOpen p spent above floors caps e

-- some leaf is open with the bound e; `above` is the bound that its parent has
abbrev pub HasOpen : Program → Type 0 → ℤ → ℤ → List ℕ → List ℕ → Splits → Type 0
HasOpen p spent e above floors caps leaf = IsOpen p spent above floors caps e
HasOpen p spent e above floors caps (split cell at less more) =
    (point : List Frac) × (mult : Mult) × IsRelaxation p floors caps (vertex point mult)
    × (HasOpen p spent e (bound_of p floors caps mult) floors (less_caps caps cell at) less
    ⊎ HasOpen p spent e (bound_of p floors caps mult) (more_floors floors cell at) caps more)

-- ---- the licence

abbrev pub first_bound : Program → ℤ
first_bound p = bound_of p p.floor p.cap (no_multipliers p)

pub record IsLicence (p : Program) (budget : ℕ) (e : ℤ) (tree : Splits) : Type 0 where
  pub search : IsSearchTree p budget (Some e) tree
  pub open_leaf : HasOpen p (budget < nodes_of tree + 2) e (first_bound p) p.floor p.cap tree

-- a whole point at a leaf is worth at most what was found
abbrev pub HoldsWholePoints : Program → Option (List ℕ) → List ℕ → List ℕ → Splits → Type 0
HoldsWholePoints p found floors caps leaf = (point : List Frac) (mult : Mult) → IsRelaxation p floors caps (vertex point mult) → IsWhole point →
    MatchOption found ⊥ (λ counts. bound_of p floors caps mult ≤ℤ worth p counts)
HoldsWholePoints p found floors caps (split cell at less more) =
    HoldsWholePoints p found floors (less_caps caps cell at) less × HoldsWholePoints p found (more_floors floors cell at) caps more

-- ---- the numbers of counts that a box leaves open

abbrev pub choices : List ℕ → ℕ
choices [] = 1
choices (c ∷ caps) = (c + 1) * choices caps
