-- What a tableau keeps whose objective row is not yet freed of the basic columns.
use Rattle.std.specs.Prelude.{◌≡◌, ℕ, ◌<◌, ℤ, pos, ◌<ℤ◌, List, length}
use Rattle.pc_program_bound.specs.declared.program.Program.{Program}
use Rattle.pc_simplex_tableau.specs.Tableau.{Tableau, Columns}
use Rattle.pc_simplex_tableau.specs.Standing.{entry_at, basic_at, IsMeantAs, IsFeasible}

-- a basic column has a positive entry in its own row and 0 in all others
pub record IsSolvedRows (t : Tableau) : Type 0 where
  pub positive : (r : ℕ) → r < length t.rows → pos 0 <ℤ entry_at t r (basic_at t r)
  pub alone : (i r : ℕ) → i < length t.rows → r < length t.rows → (i ≡ r → ⊥) → entry_at t i (basic_at t r) ≡ pos 0
  pub weighed : pos 0 <ℤ t.weight

-- as `IsMeant`, where the objective row may have any numbers at basic columns
abbrev pub IsMeantRows : Program → List ℕ → (ℕ → ℤ) → Columns → Tableau → Type 0
IsMeantRows = IsMeantAs IsSolvedRows

-- the same, with each basic column within its range
pub record IsStandingRows (p : Program) (floors : List ℕ) (gain : ℕ → ℤ) (f : Columns) (t : Tableau) : Type 0 where
  pub meant : IsMeantRows p floors gain f t
  pub feasible : IsFeasible f t
