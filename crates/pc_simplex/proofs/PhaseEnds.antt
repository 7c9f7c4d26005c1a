-- What the ends of the phases are sound by.
use Rattle.std.proofs.Common.{◌≡◌, ℕ, ◌==◌, cond, pos, List, [], length, All, refl, ap, ◌∙◌, arith}
use Rattle.std.proofs.lemmas.List.Elements.{All-weaker}
use Rattle.pc_model.specs.declared.tree.Mult.{Mult}
use Rattle.pc_program_bound.specs.declared.program.Program.{Program}
use Rattle.pc_program_bound.specs.Allocation.{constraints_of}
use Rattle.pc_program_bound.specs.Bound.{IsFit}
use Rattle.pc_simplex_tableau.specs.Tableau.{Tableau, Columns}
use Rattle.pc_simplex_tableau.specs.Relaxation.{multiplier, multipliers, one_at, Ending, at_void}
use Rattle.pc_simplex_tableau.specs.Conditions.{IsSizedRow, IsSized}
use Rattle.pc_simplex_tableau.proofs.Listed.{length-table}
use Rattle.pc_simplex.specs.Aims.{IsOver}
use Rattle.pc_simplex.specs.Ended.{IsSoundEnding}
use Rattle.pc_simplex_tableau.proofs.Tables.{All-table}
use Rattle.pc_simplex.proofs.FirstRows.{one_fits, none_fits, either_fits}

pub rows_over : (f : Columns) (t : Tableau) → IsSized f t → All (IsOver t.aim) t.rows
rows_over f t h = All-weaker (IsSizedRow f) (IsOver t.aim)
    (λ row own. record { numbers = omega (arith, own.numbers, h.aim); basic = omega (arith, own.basic, h.aim) }) t.rows h.rows

pub one_sound : (p : Program) (floors caps : List ℕ) (j : ℕ) (end : Ending) → end ≡ at_void [] (one_at p j) → IsSoundEnding p floors caps end
one_sound p floors caps j end e = rw e (
  length-table (constraints_of p) (λ k. cond (k == j) (pos 1) (pos 0)),
  All-table IsFit (constraints_of p) (λ k. cond (k == j) (pos 1) (pos 0)) (λ k lt. either_fits (k == j) (pos 1) (pos 0) one_fits none_fits),
  refl,
)

pub multipliers_sound : (p : Program) (t : Tableau) (mult : Mult) → mult ≡ multipliers p t (pos 1) → All IsFit mult.by
    → (length mult.by ≡ constraints_of p) × All IsFit mult.by × (mult.den ≡ pos 1)
multipliers_sound p t mult e fits = (ap (λ (m : Mult). length m.by) e ∙ length-table (constraints_of p) (multiplier p t), fits, ap (λ (m : Mult). m.den) e)
