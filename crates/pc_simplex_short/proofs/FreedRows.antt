-- What a short row that is freed of a column spells.
use Rattle.std.proofs.Common.{◌≡◌, ℕ, zero, suc, ◌+◌, ◌<◌, ◌≤◌, Bool, true, false, cond, List, map, length, refl, ap, ap₂, sym, ◌∙◌, arith}
use Rattle.std.specs.Prelude.{ℤ, pos, nat_abs, ◌-ℤ◌, ◌*ℤ◌}
use Rattle.std.specs.Int.{◌∣◌, int_div_euclid}
use Rattle.std.proofs.lemmas.Int.{ints}
use Rattle.std.proofs.lemmas.List.{length-map}
use Rattle.pc_program_bound.specs.Sums.{int_at}
use Rattle.pc_simplex_tableau.specs.Numbers.{common, primitive, combined, is_zero}
use Rattle.pc_simplex_tableau.specs.Tableau.{TableauRow, freed_row}
use Rattle.pc_simplex_tableau.proofs.Places.{length-combined, at-combined, common-dvd, divided}
use Rattle.pc_simplex_tableau.proofs.Products.{one-mul, cancel}
use Rattle.pc_simplex_short.specs.Short.{ShortSetting, entry, spelled_numbers, spelled_row, freed_short}
use Rattle.pc_simplex_short.specs.Kept.{IsSetting}
use Rattle.pc_simplex_short.proofs.Spelled.{same_numbers, length-spelled, at-spelled}
use Rattle.pc_simplex_short.proofs.Combining.{spelled-made}
use Rattle.pc_simplex_short.proofs.Multiples.{divides-spelled, common-spelled}

-- a number as it is, and a number that is divided, as they are made of others
pub as_it_is : (x y : ℤ) → pos 1 *ℤ x ≡ y → x ≡ y
as_it_is x y e = sym (one-mul x) ∙ e

pub no_other : (x a y : ℤ) → x ≡ a → x ≡ pos 1 *ℤ a -ℤ pos 0 *ℤ y
no_other x a y e = omega (arith, ints, e)

pub other_none : (x a y : ℤ) → x ≡ pos 1 *ℤ a -ℤ pos 0 *ℤ y → x ≡ a
other_none x a y e = omega (arith, ints, e)

-- the row divided by a number, or as it is where that is 0
abbrev primitive_by : ℕ → List ℤ → List ℤ
primitive_by g row = elim g [ zero ↦ row | suc h ↦ map (λ a. int_div_euclid a (pos (suc h))) row ]

primitive_is : (row : List ℤ) → primitive row ≡ primitive_by (common row) row
unfolding primitive
primitive_is row = refl

module _ (f : ShortSetting) (turned : List Bool) (h : IsSetting f) where
  combined-spelled : (p t : ℤ) (xs ys : List ℤ) → length xs ≡ f.constraints + 1 → length ys ≡ f.constraints + 1
      → spelled_numbers f turned (combined p xs t ys) ≡ combined p (spelled_numbers f turned xs) t (spelled_numbers f turned ys)
  combined-spelled p t xs ys long also =
      let row = spelled_numbers f turned xs in
      let other = spelled_numbers f turned ys in
      let le : length row ≤ length other = omega (arith, length-spelled f turned xs, length-spelled f turned ys) in
      let sized = length-combined p t row other le in
      same_numbers (spelled_numbers f turned (combined p xs t ys)) (combined p row t other)
      (length-spelled f turned (combined p xs t ys) ∙ sym (sized ∙ length-spelled f turned xs))
      (λ k lt. as_it_is _ _ (spelled-made f turned h (pos 1) p t (combined p xs t ys) xs ys each k (omega (arith, lt, sized, length-spelled f turned xs)))
      ∙ sym (at-combined p t row other k (omega (arith, lt, sized)) le))
    where
      each : (j : ℕ) → j < f.constraints + 1 → pos 1 *ℤ int_at (combined p xs t ys) j ≡ p *ℤ int_at xs j -ℤ t *ℤ int_at ys j
      each j lt = one-mul (int_at (combined p xs t ys) j) ∙ at-combined p t xs ys j (omega (arith, lt, long)) (omega (arith, long, also))

  divided-spelled : (g : ℕ) (xs : List ℤ) → zero < g → ((k : ℕ) → g ∣ nat_abs (int_at xs k))
      → spelled_numbers f turned (map (λ a. int_div_euclid a (pos g)) xs) ≡ map (λ a. int_div_euclid a (pos g)) (spelled_numbers f turned xs)
  divided-spelled g xs some divides =
      let new = map (λ a. int_div_euclid a (pos g)) xs in
      let row = spelled_numbers f turned xs in
      let sized = length-map row (λ a. int_div_euclid a (pos g)) in
      same_numbers (spelled_numbers f turned new) (map (λ a. int_div_euclid a (pos g)) row)
      (length-spelled f turned new ∙ sym (sized ∙ length-spelled f turned xs))
      (λ k lt. let below : k < f.columns.count + 1 = omega (arith, lt, sized, length-spelled f turned xs) in
      cancel (pos g) _ _ (omega (arith, ints, some))
      (other_none _ (int_at row k) (int_at row k) (spelled-made f turned h (pos g) (pos 1) (pos 0) new xs xs each k below)
      ∙ sym (divided row g k some (divides-spelled f turned g xs divides k below))))
    where
      each : (j : ℕ) → j < f.constraints + 1
          → pos g *ℤ int_at (map (λ a. int_div_euclid a (pos g)) xs) j ≡ pos 1 *ℤ int_at xs j -ℤ pos 0 *ℤ int_at xs j
      each j lt = no_other (pos g *ℤ int_at (map (λ a. int_div_euclid a (pos g)) xs) j) (int_at xs j) (int_at xs j) (divided xs g j some (divides j))

  primitive-spelled : (xs : List ℤ) → length xs ≡ f.constraints + 1 → spelled_numbers f turned (primitive xs) ≡ primitive (spelled_numbers f turned xs)
  primitive-spelled xs long =
      ap (spelled_numbers f turned) (primitive_is xs) ∙ by (common xs) (common-dvd xs)
      ∙ ap (λ g. primitive_by g (spelled_numbers f turned xs)) (sym (common-spelled f turned h xs long)) ∙ sym (primitive_is (spelled_numbers f turned xs))
    where
      by : (g : ℕ) → ((k : ℕ) → g ∣ nat_abs (int_at xs k)) → spelled_numbers f turned (primitive_by g xs) ≡ primitive_by g (spelled_numbers f turned xs)
      by zero divides = refl
      by (suc g) divides = divided-spelled (suc g) xs (omega arith) divides

  pub freed-spelled : (c : ℕ) (other : List ℤ) (row : TableauRow) → c < f.columns.count → length row.numbers ≡ f.constraints + 1 → length other ≡ f.constraints + 1
      → spelled_row f turned (freed_short f turned c other row) ≡ freed_row c (spelled_numbers f turned other) (spelled_row f turned row)
  freed-spelled c other row lt long also =
      by (is_zero (entry f turned row.numbers c)) (entry f turned other c) (entry f turned row.numbers c)
      ∙ ap₂ freed_as (sym (at-spelled f turned other c lt)) (sym (at-spelled f turned row.numbers c lt))
    where
      -- the freed row by the two entries
      freed_as : ℤ → ℤ → TableauRow
      freed_as p t = cond (is_zero t) (spelled_row f turned row) (record (spelled_row f turned row) {
        numbers = primitive (combined p (spelled_numbers f turned row.numbers) t (spelled_numbers f turned other));
      })

      by : (test : Bool) (p t : ℤ)
          → spelled_row f turned (cond test row (record row { numbers = primitive (combined p row.numbers t other) }))
          ≡ cond test (spelled_row f turned row) (record (spelled_row f turned row) {
            numbers = primitive (combined p (spelled_numbers f turned row.numbers) t (spelled_numbers f turned other));
          })
      by true p t = refl
      by false p t = ap (λ numbers. record (spelled_row f turned row) { numbers = numbers })
          (primitive-spelled (combined p row.numbers t other) (length-combined p t row.numbers other (omega (arith, long, also)) ∙ long)
          ∙ ap primitive (combined-spelled p t row.numbers other long also))
