-- The objective row and its weight, divided by what they have in common.
use Rattle.std.proofs.Common.{◌≡◌, ◌<ℤ◌, ◌≤ℤ◌, ◌-ℤ◌, ◌*ℤ◌, ◌&&◌, ℕ, zero, suc, ℤ, int_div, All, Bool, true, false, length, take, pos, unsigned_abs, List, [], ◌∷◌, map, arith, refl, ap, ap₂, sym, ◌∙◌, to_z, of_z}
use Rattle.std.specs.Int.{◌∣◌, IsGcd, w128}
use Rattle.std.proofs.lemmas.Bool.{false_from_ne_true}
use Rattle.std.proofs.lemmas.Int.{ints}
use Rattle.std.proofs.lemmas.List.Elements.{All-head, All-map, All-tail, All-weaker}
use Rattle.std.proofs.Math.Nat.{eq-zero_of_zero-dvd}
use Rattle.pc_num.specs.Divisor.{DividesRow, IsRowGcd}
use Rattle.pc_num.proofs.Rows.{row_divided_back, size_of_positive}
use Rattle.pc_num.proofs.Signed.{as_passed, passed}
use Rattle.pc_program_bound.specs.Bound.{IsFit}
use Rattle.pc_simplex_tableau.specs.Numbers.{common, combined, does_combined_fit, does_fit}
use Rattle.pc_simplex_tableau.specs.Conditions.{divided, freed_entries, freed_weight}
use Rattle.pc_simplex_tableau.proofs.Coded.{fits-true, true-fits}
use Rattle.pc_simplex_tableau.proofs.Divisors.{common_is, divided_row, gcd_row-cons, quotient_fits, same_row_gcd}

pub divisor_is : (weight d g : ℤ) (entries : List ℤ) → IsRowGcd entries (unsigned_abs d) → IsGcd (unsigned_abs weight) (unsigned_abs d) (unsigned_abs g) → pos 0 ≤ℤ g →
    g ≡ pos (common (weight ∷ entries))
divisor_is weight d g entries rest h sign =
    size_of_positive g sign
    ∙ ap pos (same_row_gcd (weight ∷ entries) (unsigned_abs g) (common (weight ∷ entries)) (gcd_row-cons (unsigned_abs g) (unsigned_abs d) weight entries h rest) (common_is (weight ∷ entries)))

undivided_number : (x : ℤ) → 0 ∣ unsigned_abs x → x ≡ divided 0 x
undivided_number x h = let e = eq-zero_of_zero-dvd h in let zero_is : x ≡ pos 0 = omega (arith, ints) in rw zero_is refl

undivided_all : (entries : List ℤ) → DividesRow 0 entries → entries ≡ map (divided 0) entries
undivided_all [] h = refl
undivided_all (x ∷ entries) h =
    ap₂ ◌∷◌ (undivided_number x (All-head (λ (y : ℤ). 0 ∣ unsigned_abs y) x entries h)) (undivided_all entries (All-tail (λ (y : ℤ). 0 ∣ unsigned_abs y) x entries h))

module _ (weight : ℤ) (entries : List ℤ) (none : common (weight ∷ entries) ≡ 0) where
  zeros : DividesRow 0 (weight ∷ entries)
  zeros = rw none at (common_is (weight ∷ entries)).common

  pub undivided_entries : entries ≡ map (divided (common (weight ∷ entries))) entries
  undivided_entries = rw none (undivided_all entries (All-tail (λ (y : ℤ). 0 ∣ unsigned_abs y) weight entries zeros))

  pub undivided_weight : weight ≡ divided (common (weight ∷ entries)) weight
  undivided_weight = rw none (undivided_number weight (All-head (λ (y : ℤ). 0 ∣ unsigned_abs y) weight entries zeros))

pub nothing_common : (z : ℤ) (g : ℕ) → IsFit z → of_z w128 z ≡ 0 → z ≡ pos g → g ≡ 0
nothing_common z g fits e is =
    let same : pos g ≡ pos 0 = sym is ∙ sym (passed z fits) ∙ ap (to_z w128) e in
    omega (arith, ints)

pub some_common : (z : ℤ) (g : ℕ) → IsFit z → (of_z w128 z ≡ 0 → ⊥) → z ≡ pos g → pos 0 <ℤ z
some_common z zero fits other is = absurd (other (rw is refl))
some_common z (suc g) fits other is = omega (arith, ints, is)

-- a division by what all have in common leaves nothing over, so that it is the same however it rounds
exact : (g : ℕ) (entries : List ℤ) → DividesRow (suc g) entries → map (λ a. int_div a (pos (suc g))) entries ≡ map (divided (suc g)) entries
exact g entries h =
    sym (divided_row (map (λ a. int_div a (pos (suc g))) entries) g) ∙ ap (map (divided (suc g))) (row_divided_back entries (suc g) h)

module _ (weight divisor : ℤ) (entries made : List ℤ) (fits : IsFit divisor) (is : divisor ≡ pos (common (weight ∷ entries)))
    (made_is : made ≡ map (λ a. int_div a (as_passed divisor)) entries) where
  by_common : (g : ℕ) → common (weight ∷ entries) ≡ g → pos 0 <ℤ divisor → made ≡ map (divided g) entries
  by_common zero e above = absurd (omega (arith, ints, above, is, e))
  by_common (suc g) e above =
      let same : as_passed divisor ≡ pos (suc g) = passed divisor fits ∙ is ∙ ap pos e in
      let divides : DividesRow (suc g) (weight ∷ entries) = rw e at (common_is (weight ∷ entries)).common in
      made_is ∙ ap (λ d. map (λ a. int_div a d) entries) same
      ∙ exact g entries (All-tail (λ (y : ℤ). suc g ∣ unsigned_abs y) weight entries divides)

  pub divided_entries : pos 0 <ℤ divisor → made ≡ map (divided (common (weight ∷ entries))) entries
  divided_entries above = by_common (common (weight ∷ entries)) refl above

  pub divided_fit : pos 0 <ℤ divisor → All IsFit entries → All IsFit made
  divided_fit above all = entries_fit (common (weight ∷ entries)) refl
    where
      entries_fit : (g : ℕ) → common (weight ∷ entries) ≡ g → All IsFit made
      entries_fit zero e = absurd (omega (arith, ints, above, is, e))
      entries_fit (suc g) e =
          rw (by_common (suc g) e above) (All-map IsFit (divided (suc g)) entries (All-weaker IsFit (λ a. IsFit (divided (suc g) a)) (quotient_fits g) entries all))

-- ---- a row that is longer counts as far as the first one goes
pub take_combined : (p t : ℤ) (row other : List ℤ) → combined p row t (take (length row) other) ≡ combined p row t other
unfolding combined
take_combined p t [] other = refl
take_combined p t (a ∷ row) [] = refl
take_combined p t (a ∷ row) (b ∷ other) = ap (λ l. (p *ℤ a -ℤ t *ℤ b) ∷ l) (take_combined p t row other)

pub take_fit : (p t : ℤ) (row other : List ℤ) → does_combined_fit p row t (take (length row) other) ≡ does_combined_fit p row t other
unfolding does_combined_fit
take_fit p t [] other = refl
take_fit p t (a ∷ row) [] = refl
take_fit p t (a ∷ row) (b ∷ other) = ap (λ rest. does_fit (p *ℤ a) && does_fit (t *ℤ b) && does_fit (p *ℤ a -ℤ t *ℤ b) && rest) (take_fit p t row other)

unfit : (z : ℤ) → (IsFit z → ⊥) → does_fit z ≡ false
unfit z h = false_from_ne_true (does_fit z) (λ e. h (true-fits z e))

-- ---- the parts of the clauses
pub first_fails : (a b : Bool) → false ≡ a → false ≡ (a && b)
first_fails a b e = rw (← e) refl

pub second_fails : (a : Bool) (z x : ℤ) → z ≡ x → true ≡ a → (IsFit z → ⊥) → false ≡ (a && does_fit x)
second_fails a z x e passes h = rw (← passes, ← e) (sym (unfit z h))

pub second_fits : (a : Bool) (z x : ℤ) → z ≡ x → true ≡ a → IsFit z → true ≡ (a && does_fit x)
second_fits a z x e passes h = rw (← passes, ← e) (sym (fits-true z h))

-- ---- what is left after the division
module _ (p t weight product : ℤ) (row made other : List ℤ) (fits : IsFit (p *ℤ weight)) (product_is : product ≡ p *ℤ weight) (made_is : made ≡ combined p row t (take (length row) other)) where
  clean : as_passed product ≡ p *ℤ weight
  clean = rw product_is (passed (p *ℤ weight) fits)

  pub entries_are : (entries : List ℤ) → entries ≡ map (divided (common (as_passed product ∷ made))) made → entries ≡ freed_entries p row t other weight
  entries_are entries e = let h = rw (clean, made_is, take_combined p t row other) at e in h

  pub weight_is : (left : ℤ) → left ≡ divided (common (as_passed product ∷ made)) (as_passed product) → left ≡ freed_weight p row t other weight
  weight_is left e = let h = rw (clean, made_is, take_combined p t row other) at e in h
