-- What divides all numbers of a short row divides all that it spells, and the other way round: a number stands alone at a slack.
use Rattle.std.proofs.Common.{◌≡◌, ℕ, zero, suc, ◌+◌, ◌<◌, Bool, true, false, List, [], ◌∷◌, length, refl, ap, sym, subst, ◌∙◌, arith, slice_index_or}
use Rattle.std.specs.Prelude.{ℤ, pos, nat_abs, ◌+ℤ◌, ◌*ℤ◌, unsigned_abs}
use Rattle.std.specs.Int.{◌∣◌, int_div_euclid}
use Rattle.std.proofs.lemmas.Int.{ints}
use Rattle.std.proofs.lemmas.Nat.Gcd.{dvd-zero}
use Rattle.std.proofs.lemmas.List.Elements.{All-cons, All-head, All-tail, All-get_or, All-from_get_or}
use Rattle.std.proofs.Math.Nat.{dvd-mul_right, dvd-mul_right_of_dvd, eq-zero_of_zero-dvd}
use Rattle.pc_program_bound.specs.Sums.{int_at}
use Rattle.pc_program_bound.proofs.Ring.{mul-add}
use Rattle.pc_simplex_tableau.specs.Numbers.{common}
use Rattle.pc_simplex_tableau.proofs.Places.{common-dvd, exact}
use Rattle.pc_simplex_tableau.proofs.Pivots.{by_same}
use Rattle.pc_simplex_tableau.proofs.Divisors.{common_is, same_row_gcd}
use Rattle.pc_simplex_tableau.proofs.Products.{mul-zero}
use Rattle.pc_simplex_short.specs.Short.{ShortSetting, mix, signed, places_of, entry, spelled_numbers, aim_entry, spelled_aim}
use Rattle.pc_simplex_short.specs.Kept.{IsSlackOf, IsSetting}
use Rattle.pc_simplex_short.proofs.Sizes.{size_of_product}
use Rattle.pc_simplex_short.proofs.Spelled.{length-spelled, at-spelled, value-spelled, length-aim, at-aim}

-- ---- one number

divides-sum : (g : ℕ) (a b : ℤ) → g ∣ nat_abs a → g ∣ nat_abs b → g ∣ nat_abs (a +ℤ b)
divides-sum zero a b first second =
    let none = eq-zero_of_zero-dvd first in
    let nothing = eq-zero_of_zero-dvd second in
    let sum : nat_abs (a +ℤ b) ≡ 0 = omega (arith, ints, none, nothing) in
    rw sum (dvd-zero 0)
divides-sum (suc g) a b first second =
    let q = int_div_euclid a (pos (suc g)) in
    let r = int_div_euclid b (pos (suc g)) in
    let one = exact (suc g) a (omega arith) first in
    let other = exact (suc g) b (omega arith) second in
    let whole = mul-add (pos (suc g)) q r in
    let sum : a +ℤ b ≡ pos (suc g) *ℤ (q +ℤ r) = omega (arith, ints, one, other, whole) in
    rw (sum, size_of_product (pos (suc g)) (q +ℤ r)) (dvd-mul_right (suc g) (nat_abs (q +ℤ r)))

divides-product : (g : ℕ) (a b : ℤ) → g ∣ nat_abs a → g ∣ nat_abs (a *ℤ b)
divides-product g a b h = rw (size_of_product a b) (dvd-mul_right_of_dvd g h (nat_abs b))

pub size_of_signed : (test : Bool) (a : ℤ) → nat_abs (signed test a) ≡ nat_abs a
size_of_signed true a = omega (arith, ints)
size_of_signed false a = refl

divides-mix : (g : ℕ) (numbers : List ℤ) → ((j : ℕ) → g ∣ nat_abs (int_at numbers j)) → (places : List ℕ) → g ∣ nat_abs (mix places numbers)
unfolding mix
divides-mix g numbers each [] = dvd-zero g
divides-mix g numbers each (j ∷ places) = divides-sum g (int_at numbers j) (mix places numbers) (each j) (divides-mix g numbers each places)

mix-alone : (j : ℕ) (numbers : List ℤ) → mix (j ∷ []) numbers ≡ int_at numbers j
unfolding mix
mix-alone j numbers = omega (arith, ints)

-- ---- all numbers

abbrev Divides : ℕ → ℤ → Type 0
Divides d x = d ∣ unsigned_abs x

module _ (f : ShortSetting) (turned : List Bool) where
  pub divides-spelled : (g : ℕ) (xs : List ℤ) → ((j : ℕ) → g ∣ nat_abs (int_at xs j)) → (k : ℕ) → k < f.columns.count + 1
      → g ∣ nat_abs (int_at (spelled_numbers f turned xs) k)
  divides-spelled g xs each k lt = by_same k f.columns.count value before
    where
      value : k ≡ f.columns.count → g ∣ nat_abs (int_at (spelled_numbers f turned xs) k)
      value e = subst (λ i. g ∣ nat_abs (int_at (spelled_numbers f turned xs) i)) (sym e)
          (subst (λ x. g ∣ nat_abs x) (sym (value-spelled f turned xs)) (each f.constraints))

      before : (k ≡ f.columns.count → ⊥) → g ∣ nat_abs (int_at (spelled_numbers f turned xs) k)
      before other =
          let below : k < f.columns.count = omega (arith, lt, other) in
          subst (λ x. g ∣ nat_abs x) (sym (at-spelled f turned xs k below))
          (subst (λ n. g ∣ n) (sym (size_of_signed (slice_index_or turned k false) (mix (places_of f k) xs))) (divides-mix g xs each (places_of f k)))

  pub divides-aim : (g : ℕ) (weight : ℤ) (xs : List ℤ) → g ∣ nat_abs weight → ((j : ℕ) → g ∣ nat_abs (int_at xs j)) → (k : ℕ) → k < f.columns.count
      → g ∣ nat_abs (int_at (spelled_aim f turned weight xs) k)
  divides-aim g weight xs weighs each k lt =
      subst (λ x. g ∣ nat_abs x) (sym (at-aim f turned weight xs k lt))
      (subst (λ n. g ∣ n) (sym (size_of_signed (slice_index_or turned k false) (weight *ℤ int_at f.gains k +ℤ mix (places_of f k) xs)))
      (divides-sum g (weight *ℤ int_at f.gains k) (mix (places_of f k) xs) (divides-product g weight (int_at f.gains k) weighs) (divides-mix g xs each (places_of f k))))

  -- a number stands alone at a slack, but for its sign
  pub slack-entry : (xs : List ℤ) (j k : ℕ) → IsSlackOf f j k → nat_abs (entry f turned xs k) ≡ nat_abs (int_at xs j)
  slack-entry xs j k s =
      size_of_signed (slice_index_or turned k false) (mix (places_of f k) xs) ∙ ap (λ places. nat_abs (mix places xs)) s.place ∙ ap nat_abs (mix-alone j xs)

  pub slack-aim_entry : (weight : ℤ) (xs : List ℤ) (j k : ℕ) → IsSlackOf f j k → nat_abs (aim_entry f turned weight xs k) ≡ nat_abs (int_at xs j)
  slack-aim_entry weight xs j k s =
      let nothing : weight *ℤ int_at f.gains k ≡ pos 0 = ap (λ gain. weight *ℤ gain) s.gainless ∙ mul-zero weight in
      let number : mix (places_of f k) xs ≡ int_at xs j = ap (λ places. mix places xs) s.place ∙ mix-alone j xs in
      let sum : weight *ℤ int_at f.gains k +ℤ mix (places_of f k) xs ≡ int_at xs j = omega (arith, ints, nothing, number) in
      size_of_signed (slice_index_or turned k false) (weight *ℤ int_at f.gains k +ℤ mix (places_of f k) xs) ∙ ap nat_abs sum

  module _ (h : IsSetting f) where
    divides-numbers : (d : ℕ) (xs : List ℤ) → ((k : ℕ) → k < f.columns.count + 1 → d ∣ nat_abs (int_at (spelled_numbers f turned xs) k))
        → (j : ℕ) → j < f.constraints + 1 → d ∣ nat_abs (int_at xs j)
    divides-numbers d xs each j lt = by_same j f.constraints value before
      where
        value : j ≡ f.constraints → d ∣ nat_abs (int_at xs j)
        value e = subst (λ i. d ∣ nat_abs (int_at xs i)) (sym e) (subst (λ x. d ∣ nat_abs x) (value-spelled f turned xs) (each f.columns.count (omega arith)))

        before : (j ≡ f.constraints → ⊥) → d ∣ nat_abs (int_at xs j)
        before other =
            let slack = h.slacks j (omega (arith, lt, other)) in
            subst (λ n. d ∣ n) (ap nat_abs (at-spelled f turned xs slack.0 slack.1.within) ∙ slack-entry xs j slack.0 slack.1)
            (each slack.0 (omega (arith, slack.1.within)))

    divides-aim_numbers : (d : ℕ) (weight : ℤ) (xs : List ℤ) → ((k : ℕ) → k < f.columns.count → d ∣ nat_abs (int_at (spelled_aim f turned weight xs) k))
        → (j : ℕ) → j < f.constraints → d ∣ nat_abs (int_at xs j)
    divides-aim_numbers d weight xs each j lt =
        let slack = h.slacks j lt in
        subst (λ n. d ∣ n) (ap nat_abs (at-aim f turned weight xs slack.0 slack.1.within) ∙ slack-aim_entry weight xs j slack.0 slack.1)
        (each slack.0 slack.1.within)

    pub common-spelled : (xs : List ℤ) → length xs ≡ f.constraints + 1 → common (spelled_numbers f turned xs) ≡ common xs
    common-spelled xs long = same_row_gcd (spelled_numbers f turned xs) (common (spelled_numbers f turned xs)) (common xs) (common_is (spelled_numbers f turned xs)) (record {
      common = All-from_get_or (Divides (common xs)) (spelled_numbers f turned xs) (pos 0)
          (λ k lt. divides-spelled (common xs) xs (common-dvd xs) k (omega (arith, lt, length-spelled f turned xs)));
      greatest = λ d all. (common_is xs).greatest d (All-from_get_or (Divides d) xs (pos 0) (λ j lt. divides-numbers d xs
          (λ k less. All-get_or (Divides d) (spelled_numbers f turned xs) k (pos 0) (omega (arith, less, length-spelled f turned xs)) all) j (omega (arith, lt, long))));
    })

    pub common-aim : (weight : ℤ) (xs : List ℤ) → length xs ≡ f.constraints → common (weight ∷ spelled_aim f turned weight xs) ≡ common (weight ∷ xs)
    common-aim weight xs long =
        let aim = spelled_aim f turned weight xs in
        let g = common (weight ∷ xs) in
        same_row_gcd (weight ∷ aim) (common (weight ∷ aim)) g (common_is (weight ∷ aim)) (record {
          common = All-cons (Divides g) weight aim (common-dvd (weight ∷ xs) 0) (All-from_get_or (Divides g) aim (pos 0)
              (λ k lt. divides-aim g weight xs (common-dvd (weight ∷ xs) 0) (λ j. common-dvd (weight ∷ xs) (suc j)) k (omega (arith, lt, length-aim f turned weight xs))));
          greatest = λ d all. (common_is (weight ∷ xs)).greatest d
              (All-cons (Divides d) weight xs (All-head (Divides d) weight aim all) (All-from_get_or (Divides d) xs (pos 0) (λ j lt. divides-aim_numbers d weight xs
              (λ k less. All-get_or (Divides d) aim k (pos 0) (omega (arith, less, length-aim f turned weight xs)) (All-tail (Divides d) weight aim all)) j (omega (arith, lt, long)))));
        })
