-- The sum of a row's numbers at some places, one place after the other, and its size.
use Rattle.std.proofs.Common.{◌≡◌, ℕ, ◌+◌, ◌*◌, ◌^◌, ◌<◌, ◌≤◌, Bool, true, false, List, [], ◌∷◌, length, drop, get_or, All, refl, ap, sym, ◌∙◌, arith}
use Rattle.std.specs.Prelude.{ℤ, pos, ◌+ℤ◌, nat_abs}
use Rattle.std.proofs.lemmas.Int.{ints}
use Rattle.std.proofs.lemmas.List.{at_drop_more, at_drop_all}
use Rattle.pc_program_bound.specs.Sums.{int_at}
use Rattle.std.proofs.lemmas.List.Elements.{All-head, All-tail}
use Rattle.pc_simplex_short.specs.Short.{mix, signed}
use Rattle.pc_simplex_short.specs.Kept.{IsWithin}

-- the sum so far, and what is left of it
pub record IsMixTo (bits : ℕ) (places : List ℕ) (numbers : List ℤ) (sum : ℤ) (i : ℕ) : Type 0 where
  pub left : sum +ℤ mix (drop i places) numbers ≡ mix places numbers
  pub small : nat_abs sum ≤ i * 2 ^ bits

mix-nil : (numbers : List ℤ) → mix [] numbers ≡ pos 0
unfolding mix
mix-nil numbers = refl

mix-cons : (j : ℕ) (places : List ℕ) (numbers : List ℤ) → mix (j ∷ places) numbers ≡ int_at numbers j +ℤ mix places numbers
unfolding mix
mix-cons j places numbers = refl

pub mix_first : (bits : ℕ) (places : List ℕ) (numbers : List ℤ) → IsMixTo bits places numbers (pos 0) 0
mix_first bits places numbers = record { left = omega (arith, ints); small = omega arith }

pub mix_more : (bits : ℕ) (places : List ℕ) (numbers : List ℤ) (sum : ℤ) (i d j : ℕ) → i < length places → j ≡ get_or places i d → nat_abs (int_at numbers j) ≤ 2 ^ bits
    → IsMixTo bits places numbers sum i → IsMixTo bits places numbers (sum +ℤ int_at numbers j) (i + 1)
mix_more bits places numbers sum i d j lt e small h =
    let next : mix (drop i places) numbers ≡ mix (get_or places i d ∷ drop (i + 1) places) numbers = at_drop_more (λ p. mix p numbers) places i d lt in
    let split : mix (get_or places i d ∷ drop (i + 1) places) numbers ≡ int_at numbers j +ℤ mix (drop (i + 1) places) numbers =
    mix-cons (get_or places i d) (drop (i + 1) places) numbers ∙ ap (λ k. int_at numbers k +ℤ mix (drop (i + 1) places) numbers) (sym e) in
    record { left = omega (arith, ints, h.left, next, split); small = omega (arith, ints, h.small, small) }

pub mix_end : (bits : ℕ) (places : List ℕ) (numbers : List ℤ) (sum : ℤ) (i : ℕ) → length places ≤ i → IsMixTo bits places numbers sum i → sum ≡ mix places numbers
mix_end bits places numbers sum i past h =
    let none : mix (drop i places) numbers ≡ pos 0 = at_drop_all (λ p. mix p numbers) places i past ∙ mix-nil numbers in
    omega (arith, ints, h.left, none)

-- ---- its size

pub mix_small : (bits : ℕ) (places : List ℕ) (numbers : List ℤ) → All (λ j. j < length numbers) places → All (IsWithin bits) numbers
    → nat_abs (mix places numbers) ≤ length places * 2 ^ bits
mix_small bits [] numbers within small = rw (mix-nil numbers) (omega arith)
mix_small bits (j ∷ places) numbers within small =
    let here : nat_abs (int_at numbers j) ≤ 2 ^ bits = small j (pos 0) (All-head (λ k. k < length numbers) j places within) in
    let rest = mix_small bits places numbers (All-tail (λ k. k < length numbers) j places within) small in
    rw (mix-cons j places numbers) (omega (arith, ints, here, rest))

pub size_of_signed : (test : Bool) (x : ℤ) → nat_abs (signed test x) ≡ nat_abs x
size_of_signed true x = omega (arith, ints)
size_of_signed false x = refl
