-- The order of two fractions by whole parts and remainders.
use Rattle.std.proofs.Common.{◌≡◌, ◌≢◌, ◌<◌, ◌≤◌, ◌+◌, ◌*◌, ◌/◌, ◌%◌, ℕ, zero, suc, arith, inl, inr, ◌⊎◌, sym, ◌∙◌}
use Rattle.std.proofs.lemmas.Bool.{cases_order}
use Rattle.std.proofs.lemmas.Nat.{mod_below, div-add-mod'}
use Rattle.std.proofs.Math.Nat.{mul-le-mul_right, mul-lt-mul_of_pos_right}
use Rattle.std.proofs.Common.{Less, Equal, Greater}
use Rattle.std.specs.Ordering.{nat_cmp}
use Rattle.std.specs.Cmp.{nat_cmp_is}
use Rattle.pc_num.proofs.Divisors.{multiple_split}

nat_cmp-below : (x y : ℕ) → x < y → nat_cmp x y ≡ Less
nat_cmp-below x y h = sym (nat_cmp_is x y Less h)

nat_cmp-same : (x y : ℕ) → x ≡ y → nat_cmp x y ≡ Equal
nat_cmp-same x y h = sym (nat_cmp_is x y Equal h)

nat_cmp-above : (x y : ℕ) → y < x → nat_cmp x y ≡ Greater
nat_cmp-above x y h = sym (nat_cmp_is x y Greater h)

-- two pairs of numbers are in one order
one_order : (x y u v : ℕ) → (x < y → u < v) → (x ≡ y → u ≡ v) → (y < x → v < u) → nat_cmp x y ≡ nat_cmp u v
one_order x y u v l e g =
    elim (cases_order x y) [
      | inl same ↦ nat_cmp-same x y same ∙ sym (nat_cmp-same u v (e same))
      | inr (inl below) ↦ nat_cmp-below x y below ∙ sym (nat_cmp-below u v (l below))
      | inr (inr above) ↦ nat_cmp-above x y above ∙ sym (nat_cmp-above u v (g above))
    ]

-- a lower whole part is a lower fraction
lower : (a b c d w r v s : ℕ) → w * b + r ≡ a → v * d + s ≡ c → r < b → zero < d → w < v → a * d < c * b
lower a b c d w r v s ea ec rb some h =
    let whole : (w + 1) * b ≤ v * b = mul-le-mul_right b (omega arith) in
    let own : a < v * b = omega arith in
    let left : a * d < (v * b) * d = mul-lt-mul_of_pos_right own some in
    let right : (v * d) * b ≤ c * b = mul-le-mul_right b (omega arith) in
    omega arith

pub whole_differs : (a b c d : ℕ) → zero < b → zero < d → a / b ≢ c / d → nat_cmp (a / b) (c / d) ≡ nat_cmp (a * d) (c * b)
whole_differs a b c d p q ne =
    one_order (a / b) (c / d) (a * d) (c * b)
    (λ h. lower a b c d (a / b) (a % b) (c / d) (c % d) (div-add-mod' a b) (div-add-mod' c d) (mod_below a b p) q h)
    (λ e. absurd (ne e))
    (λ h. lower c d a b (c / d) (c % d) (a / b) (a % b) (div-add-mod' c d) (div-add-mod' a b) (mod_below c d q) p h)

rests_order : (a b c d w v r s : ℕ) → w * b + r ≡ a → v * d + s ≡ c → w ≡ v → nat_cmp (r * d) (s * b) ≡ nat_cmp (a * d) (c * b)
rests_order a b c d w v r s ea ec e =
    let left = multiple_split a b d w r ea in
    let right : c * b ≡ w * (b * d) + s * b = rw e (let t = multiple_split c d b v s ec in omega arith) in
    one_order (r * d) (s * b) (a * d) (c * b) (λ h. omega arith) (λ h. omega arith) (λ h. omega arith)

pub rests : (a b c d : ℕ) → a / b ≡ c / d → nat_cmp ((a % b) * d) ((c % d) * b) ≡ nat_cmp (a * d) (c * b)
rests a b c d e = rests_order a b c d (a / b) (c / d) (a % b) (c % d) (div-add-mod' a b) (div-add-mod' c d) e

no_rest : (r s b d : ℕ) → zero < b → zero < d → r ≡ 0 → nat_cmp r s ≡ nat_cmp (r * d) (s * b)
no_rest r zero b d p q e = rw e (one_order 0 0 (0 * d) (0 * b) (λ h. omega arith) (λ h. omega arith) (λ h. omega arith))
no_rest r (suc s) b d p q e =
    let some : zero < suc s = omega arith in
    let above : zero * b < suc s * b = mul-lt-mul_of_pos_right some p in
    rw e (one_order 0 (suc s) (0 * d) (suc s * b) (λ h. omega arith) (λ h. omega arith) (λ h. omega arith))

no_rest_of_others : (r s b d : ℕ) → zero < b → zero < d → s ≡ 0 → nat_cmp r s ≡ nat_cmp (r * d) (s * b)
no_rest_of_others zero s b d p q e = rw e (one_order 0 0 (0 * d) (0 * b) (λ h. omega arith) (λ h. omega arith) (λ h. omega arith))
no_rest_of_others (suc r) s b d p q e =
    let some : zero < suc r = omega arith in
    let above : zero * d < suc r * d = mul-lt-mul_of_pos_right some q in
    rw e (one_order (suc r) 0 (suc r * d) (0 * b) (λ h. omega arith) (λ h. omega arith) (λ h. omega arith))

-- where one has no rest, the rests decide
pub ends : (a b c d : ℕ) → zero < b → zero < d → a / b ≡ c / d → (a % b ≡ 0) ⊎ (c % d ≡ 0) → nat_cmp (a % b) (c % d) ≡ nat_cmp (a * d) (c * b)
ends a b c d p q e (inl h) = no_rest (a % b) (c % d) b d p q h ∙ rests a b c d e
ends a b c d p q e (inr h) = no_rest_of_others (a % b) (c % d) b d p q h ∙ rests a b c d e

-- the rests' inverses, in the other order
pub turned : (a b c d : ℕ) → a / b ≡ c / d → nat_cmp (d * (a % b)) (b * (c % d)) ≡ nat_cmp (a * d) (c * b)
turned a b c d e =
    let left : d * (a % b) ≡ (a % b) * d = omega arith in
    let right : b * (c % d) ≡ (c % d) * b = omega arith in
    rw (left, right) (rests a b c d e)
