-- Which aggregates have a value, and that a value's denominator is above 0.
use Rattle.std.proofs.Common.{◌≡◌, ℤ, pos, ◌≤ℤ◌, ◌<ℤ◌, Bool, true, false, ◌||◌, List, [], ◌∷◌, length, Option, Some, None, IfSome, IsSome, IsNone, refl, sym, true≢false, arith}
use Rattle.std.specs.Prelude.{option_map}
use Rattle.std.proofs.lemmas.Int.{ints}
use Rattle.pc_model.specs.declared.query.Agg.{Agg}
use Rattle.pc_model.specs.declared.query.Agg.TheVariants.{Count, Sum, Min, Max, Avg}
use Rattle.pc_model.specs.Aggregate.{Ratio, whole, IsAtMost, value_of}
use Rattle.pc_model.specs.Right.{always_has_value}
use Rattle.pc_proof.proofs.Fractions.{at_most_trans}

-- ---- options

pub whole_if : (o : Option ℤ) (P : Ratio → Type 0) → IfSome o (λ n. P (whole n)) → IfSome (option_map whole o) P
whole_if None P holds = tt
whole_if (Some n) P holds = holds

pub none_from : {X : Type 0} (o : Option X) → (IsSome o → ⊥) → IsNone o
none_from None never = refl
none_from (Some x) never = absurd (never refl)

pub neither : (a b : Bool) → false ≡ (a || b) → a ≡ false
neither true b is = absurd (true≢false (sym is))
neither false b is = refl

-- ends that do not cross a value that there is do not cross each other
pub not_crossed : (o : Option Ratio) (low high : Ratio) → pos 0 <ℤ low.den → pos 0 <ℤ high.den → IsSome o → IfSome o (λ x. pos 0 <ℤ x.den) →
    IfSome o (λ x. IsAtMost low x) → IfSome o (λ x. IsAtMost x high) → IsAtMost low high
not_crossed None low high low_den high_den some den from to = absurd (true≢false (sym some))
not_crossed (Some x) low high low_den high_den some den from to = at_most_trans low x high low_den den high_den from to

-- ---- values

pub gives_ratio : (agg : Agg) (xs : List ℤ) → IfSome (value_of agg xs) (λ x. pos 0 <ℤ x.den)
gives_ratio Count xs = omega (arith, ints)
gives_ratio Sum xs = omega (arith, ints)
gives_ratio Min [] = tt
gives_ratio Min (x ∷ xs) = omega (arith, ints)
gives_ratio Max [] = tt
gives_ratio Max (x ∷ xs) = omega (arith, ints)
gives_ratio Avg [] = tt
gives_ratio Avg (x ∷ xs) = omega (arith, ints)

pub always_some : (agg : Agg) (xs : List ℤ) → always_has_value agg ≡ true → IsSome (value_of agg xs)
always_some Count xs always = refl
always_some Sum xs always = refl
always_some Min xs always = absurd (true≢false (sym always))
always_some Max xs always = absurd (true≢false (sym always))
always_some Avg xs always = absurd (true≢false (sym always))

-- of a list with a number, and of an empty one
pub some_of : (agg : Agg) (xs : List ℤ) → pos 1 ≤ℤ pos (length xs) → IsSome (value_of agg xs)
some_of Count xs some = refl
some_of Sum xs some = refl
some_of Min [] some = absurd (omega (arith, ints))
some_of Min (x ∷ xs) some = refl
some_of Max [] some = absurd (omega (arith, ints))
some_of Max (x ∷ xs) some = refl
some_of Avg [] some = absurd (omega (arith, ints))
some_of Avg (x ∷ xs) some = refl

pub none_of : (agg : Agg) → always_has_value agg ≡ false → IsNone (value_of agg [])
none_of Count always = absurd (true≢false always)
none_of Sum always = absurd (true≢false always)
none_of Min always = refl
none_of Max always = refl
none_of Avg always = refl
