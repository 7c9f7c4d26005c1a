-- The objective row and its weight, divided by what they have in common.
use Rattle.std.proofs.Common.{◌≡◌, ◌≤ℤ◌, ℕ, zero, suc, ℤ, pos, List, ◌∷◌, map, All, unsigned_abs, arith, refl, ap, sym}
use Rattle.std.specs.Int.{IsGcd, int_div_euclid}
use Rattle.std.proofs.lemmas.Int.{ints}
use Rattle.std.proofs.lemmas.List.Elements.{All-cons}
use Rattle.pc_num.specs.Divisor.{IsRowGcd}
use Rattle.pc_num.proofs.Rows.{IsGcdWith, from_zero, row_gcd_step}
use Rattle.pc_num.proofs.Signed.{as_passed}
use Rattle.pc_program_bound.specs.Bound.{IsFit}
use Rattle.pc_simplex_tableau.specs.Numbers.{common}
use Rattle.pc_simplex_tableau.specs.Conditions.{divided}
use Rattle.pc_simplex_tableau.proofs.Aims.{undivided_entries, undivided_weight}
use Rattle.pc_simplex_short.proofs.Reducing.{divided_once, row_divided_once}

-- ---- the divisor

module _ (weight : ℤ) (entries : List ℤ) (weight_fits : IsFit weight) (fits : All IsFit entries) where
  all_fit : All IsFit (weight ∷ entries)
  all_fit = All-cons IsFit weight entries weight_fits fits

  -- it starts with the weight
  pub divisor_start : (e : ℤ) (g : ℕ) → IsGcd 0 (unsigned_abs (as_passed weight)) (unsigned_abs e) → IsFit e → IsGcdWith (unsigned_abs (as_passed e)) entries g
      → IsRowGcd (weight ∷ entries) g
  divisor_start e g h e_fits rest = from_zero (weight ∷ entries) g (row_gcd_step (weight ∷ entries) 0 0 e (omega arith) all_fit h e_fits g rest)

-- ---- the division

module _ (weight : ℤ) (entries : List ℤ) (d : ℤ) (is : d ≡ pos (common (weight ∷ entries))) where
  pub all_by : map (λ a. int_div_euclid a d) entries ≡ map (divided (common (weight ∷ entries))) entries
  all_by = ap (λ e. map (λ a. int_div_euclid a e) entries) is

  pub one_by : int_div_euclid weight d ≡ divided (common (weight ∷ entries)) weight
  one_by = ap (int_div_euclid weight) is

  -- where there is nothing to divide by, or 1, all numbers stay
  pub all_once : d ≤ℤ pos 1 → entries ≡ map (divided (common (weight ∷ entries))) entries
  all_once low = by (common (weight ∷ entries)) refl
    where
      by : (g : ℕ) → common (weight ∷ entries) ≡ g → entries ≡ map (divided (common (weight ∷ entries))) entries
      by zero e = undivided_entries weight entries e
      by (suc zero) e = rw e (sym (row_divided_once entries))
      by (suc (suc g)) e = absurd (omega (arith, ints, is, e, low))

  pub one_once : d ≤ℤ pos 1 → weight ≡ divided (common (weight ∷ entries)) weight
  one_once low = by (common (weight ∷ entries)) refl
    where
      by : (g : ℕ) → common (weight ∷ entries) ≡ g → weight ≡ divided (common (weight ∷ entries)) weight
      by zero e = undivided_weight weight entries e
      by (suc zero) e = rw e (sym (divided_once weight))
      by (suc (suc g)) e = absurd (omega (arith, ints, is, e, low))
