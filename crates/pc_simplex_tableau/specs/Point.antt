-- The point in which the steps of a relaxation end, and whether it is wide.
use Rattle.std.specs.Prelude.{◌≡◌, ◌<◌, ℕ, ◌==◌, nat_abs, ℤ, pos, ◌+ℤ◌, ◌-ℤ◌, ◌*ℤ◌, ◌≤ℤ◌, cond, List, length, slice_index_or, Option, Some, None}
use Rattle.std.specs.Int.{IsGcd}
use Rattle.pc_num.specs.declared.Frac.{Frac}
use Rattle.pc_program_bound.specs.declared.program.Program.{Program}
use Rattle.pc_model.specs.declared.tree.Mult.{Mult}
use Rattle.pc_program_bound.specs.Sums.{nat_at, int_at}
use Rattle.pc_program_bound.specs.Allocation.{cells_of}
use Rattle.pc_program_bound.specs.Bound.{IsFit, HasFitWidth, without_gain}
use Rattle.pc_simplex_tableau.specs.Numbers.{first_below}
use Rattle.pc_simplex_tableau.specs.declared.step.Step.{Step}
use Rattle.pc_simplex_tableau.specs.Tableau.{Tableau, row_at, is_turned}
use Rattle.pc_simplex_tableau.specs.Relaxation.{columns_of, multipliers, Ending, at_vertex, at_void, at_wide, at_stall, ending}

-- where a column stands, as a fraction: in the row that it is basic in, or 0
abbrev pub row_of : Tableau → ℕ → Option ℕ
row_of t k = first_below (length t.rows) (λ r. (row_at t r).basic == k)

abbrev pub over_at : Program → Tableau → ℕ → ℤ
over_at p t k = elim (row_of t k) [ Some r ↦ int_at (row_at t r).numbers (columns_of p) | None ↦ pos 0 ]

abbrev pub under_at : Tableau → ℕ → ℤ
under_at t k = elim (row_of t k) [ Some r ↦ int_at (row_at t r).numbers k | None ↦ pos 1 ]

-- a cell's count times `under_at`: its floor and where it stands, or its cap less that where it is turned
abbrev pub count_over : Program → List ℕ → List ℕ → Tableau → ℕ → ℤ
count_over p floors caps t i =
    cond (is_turned t i) (pos (nat_at caps i) *ℤ under_at t i -ℤ over_at p t i) (pos (nat_at floors i) *ℤ under_at t i +ℤ over_at p t i)

-- the reduced fraction of a count
pub record IsCount (p : Program) (floors caps : List ℕ) (t : Tableau) (i : ℕ) (count : Frac) : Type 0 where
  pub positive : pos 1 ≤ℤ count.den
  pub reduced : IsGcd (nat_abs count.num) (nat_abs count.den) 1
  pub same : count.num *ℤ under_at t i ≡ count_over p floors caps t i *ℤ count.den

abbrev pub IsFitCount : Frac → Type 0
IsFitCount count = IsFit count.num × IsFit count.den

abbrev pub no_count : Frac
no_count = record { num = pos 0; den = pos 1 }

pub record IsPointOf (p : Program) (floors caps : List ℕ) (t : Tableau) (point : List Frac) : Type 0 where
  pub sized : length point ≡ cells_of p
  pub counts : (i : ℕ) → i < cells_of p → IsCount p floors caps t i (slice_index_or point i no_count)

-- what a relaxation is: plain data, with the answers of `relax`
pub data Relaxation : Type 0 where
  vertex : List Frac → Mult → Relaxation
  void : Mult → Relaxation
  wide : List Step → Relaxation
  stalled : List Step → Relaxation

-- the tableau at the end of phase two gives a point whose counts and whose multipliers' width fit
pub record IsNarrow (p : Program) (floors caps : List ℕ) (t : Tableau) (point : List Frac) : Type 0 where
  pub point_of : IsPointOf p floors caps t point
  pub counts : (i : ℕ) → i < cells_of p → IsFitCount (slice_index_or point i no_count)
  pub width : HasFitWidth p (multipliers p t t.weight)

-- what the steps of a box end in, as the one answer that it has
abbrev pub IsEnding : Program → List ℕ → List ℕ → Ending → Relaxation → Type 0
IsEnding p floors caps (at_vertex steps t) (vertex point mult) = IsNarrow p floors caps t point × (mult ≡ multipliers p t t.weight)
IsEnding p floors caps (at_vertex steps t) (void mult) = ⊥
IsEnding p floors caps (at_vertex steps t) (wide taken) = ((point : List Frac) → IsNarrow p floors caps t point → ⊥) × (taken ≡ steps)
IsEnding p floors caps (at_vertex steps t) (stalled taken) = ⊥
IsEnding p floors caps (at_void steps mult) (void by) = HasFitWidth (without_gain p) mult × (by ≡ mult)
IsEnding p floors caps (at_void steps mult) (wide taken) = (HasFitWidth (without_gain p) mult → ⊥) × (taken ≡ steps)
IsEnding p floors caps (at_void steps mult) _ = ⊥
IsEnding p floors caps (at_wide steps) (wide taken) = taken ≡ steps
IsEnding p floors caps (at_wide steps) _ = ⊥
IsEnding p floors caps (at_stall steps) (stalled taken) = taken ≡ steps
IsEnding p floors caps (at_stall steps) _ = ⊥

abbrev pub IsRelaxation : Program → List ℕ → List ℕ → Relaxation → Type 0
IsRelaxation p floors caps r = IsEnding p floors caps (ending p floors caps) r
