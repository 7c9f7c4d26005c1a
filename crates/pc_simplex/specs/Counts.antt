-- Counts as fractions.
use Rattle.std.specs.Prelude.{◌<◌, ℕ, Bool, cond, ℤ, pos, ◌+ℤ◌, ◌-ℤ◌, ◌*ℤ◌, List}
use Rattle.pc_num.specs.declared.Frac.{Frac}
use Rattle.pc_program_bound.specs.declared.program.Program.{Program}
use Rattle.pc_program_bound.specs.Allocation.{cells_of}
use Rattle.pc_simplex_tableau.specs.Tableau.{Tableau}
use Rattle.pc_simplex_tableau.specs.Point.{IsPointOf, IsFitCount}
use Rattle.pc_simplex.specs.Vertices.{count_at}

-- the count that a part above the end makes, or below it where the column is turned
abbrev pub numerator : ℕ → Bool → Frac → ℤ
numerator end turned part = cond turned (pos end *ℤ part.den -ℤ part.num) (pos end *ℤ part.den +ℤ part.num)

abbrev pub counted : ℕ → Bool → Frac → Frac
counted end turned part = record { num = numerator end turned part; den = part.den }

-- the point of the tableau, whose counts fit
pub record IsFitPoint (p : Program) (floors caps : List ℕ) (t : Tableau) (point : List Frac) : Type 0 where
  pub point_of : IsPointOf p floors caps t point
  pub counts : (i : ℕ) → i < cells_of p → IsFitCount (count_at point i)
