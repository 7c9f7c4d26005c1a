-- Tests joined by `and`, and one of two tests.
use Rattle.std.proofs.Common.{◌≡◌, ℕ, zero, suc, ◌+◌, ◌<◌, ◌&&◌, cond, Bool, true, false, refl, arith}
use Rattle.std.proofs.lemmas.Bool.{false_from_ne_true}

pub and_crossed : (a b c d : Bool) → ((a && b) && (c && d)) ≡ ((a && c) && (b && d))
and_crossed true true c d = refl
and_crossed true false true d = refl
and_crossed true false false d = refl
and_crossed false b c d = refl

-- a third test that one of two passes, where both never do
pub counted : (p q r : Bool) → (p ≡ true → q ≡ true → ⊥) → (p ≡ true → r ≡ true) → (q ≡ true → r ≡ true) → (r ≡ true → p ≡ false → q ≡ false → ⊥) →
    cond p 1 0 + cond q 1 0 ≡ cond r 1 0
counted true true r never first second some = absurd (never refl refl)
counted true false r never first second some = rw (first refl) refl
counted false true r never first second some = rw (second refl) refl
counted false false r never first second some = rw (false_from_ne_true r (λ h. some h refl refl)) refl

pub above_zero : (k : ℕ) → (k ≡ 0 → ⊥) → 0 < k
above_zero zero other = absurd (other refl)
above_zero (suc k) other = omega arith
