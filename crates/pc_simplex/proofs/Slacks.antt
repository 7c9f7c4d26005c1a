-- The multipliers, one slack after the other.
use Rattle.std.proofs.Common.{◌≡◌, ℕ, ◌+◌, ◌-◌, ◌≤◌, cond, All, List, ◌∷◌, ◌++◌, [], ap, sym, ◌∙◌, arith}
use Rattle.std.specs.Prelude.{ℤ, neg_ℤ}
use Rattle.std.proofs.lemmas.List.Elements.{All-nil, All-push}
use Rattle.pc_program_bound.specs.declared.program.Program.{Program}
use Rattle.pc_program_bound.specs.Sums.{int_at}
use Rattle.pc_program_bound.specs.Bound.{IsFit}
use Rattle.pc_program_bound.specs.Allocation.{cells_of, constraints_of}
use Rattle.pc_simplex_tableau.specs.Numbers.{table}
use Rattle.pc_simplex_tableau.specs.Tableau.{Tableau, is_turned}
use Rattle.pc_simplex_tableau.specs.Relaxation.{multiplier}
use Rattle.pc_simplex_tableau.proofs.Tables.{table-zero, table_made}

-- the multipliers of the constraints whose slacks stand before a column
pub record AreMultipliers (p : Program) (t : Tableau) (slack : ℕ) (by : List ℤ) : Type 0 where
  pub within : cells_of p ≤ slack
  pub are : by ≡ table (slack - cells_of p) (multiplier p t)
  pub fit : All IsFit by

abbrev pub entry : Tableau → ℕ → ℤ
entry t slack = cond (is_turned t slack) (int_at t.aim slack) (neg_ℤ (int_at t.aim slack))

pub no_multipliers : (p : Program) (t : Tableau) → AreMultipliers p t (cells_of p) []
no_multipliers p t =
    let none : cells_of p - cells_of p ≡ 0 = omega arith in
    record { within = omega arith; are = rw none (sym (table-zero (multiplier p t))); fit = All-nil IsFit }

pub more_multipliers : (p : Program) (t : Tableau) (slack : ℕ) (by : List ℤ) (number : ℤ) → AreMultipliers p t slack by → number ≡ entry t slack → IsFit number
    → AreMultipliers p t (slack + 1) (by ++ number ∷ [])
more_multipliers p t slack by number before own fits =
    let behind = before.within in
    let here : cells_of p + (slack - cells_of p) ≡ slack = omega (arith, behind) in
    let next : slack + 1 - cells_of p ≡ slack - cells_of p + 1 = omega (arith, behind) in
    record {
      within = omega (arith, behind);
      are = rw next (table_made by (slack - cells_of p) (multiplier p t) number before.are (own ∙ ap (entry t) (sym here)));
      fit = All-push IsFit by number before.fit fits;
    }

pub all_multipliers : (p : Program) (t : Tableau) (last : ℕ) (by : List ℤ) → AreMultipliers p t last by → last ≡ cells_of p + constraints_of p → by ≡ table (constraints_of p) (multiplier p t)
all_multipliers p t last by are e =
    let count : last - cells_of p ≡ constraints_of p = omega (arith, e) in
    are.are ∙ ap (λ n. table n (multiplier p t)) count
