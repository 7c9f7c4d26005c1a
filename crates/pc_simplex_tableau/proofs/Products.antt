-- More laws of the product of integers.
use Rattle.std.proofs.Common.{◌≡◌, ap, sym, ◌∙◌, arith}
use Rattle.std.specs.Prelude.{ℤ, pos, negsuc, neg_ℤ, ◌+ℤ◌, ◌-ℤ◌, ◌*ℤ◌, ◌≤ℤ◌, ◌<ℤ◌}
use Rattle.std.proofs.lemmas.Int.{ints, by_lt_z}
use Rattle.std.proofs.Math.IntN.{*ℤ_comm}
use Rattle.pc_program_bound.proofs.Ring.{mul-add, mul_assoc, mul_mono}

pub zero-mul : (a : ℤ) → pos 0 *ℤ a ≡ pos 0
zero-mul a = omega (arith, ints)

pub mul-zero : (a : ℤ) → a *ℤ pos 0 ≡ pos 0
mul-zero a = *ℤ_comm a (pos 0) ∙ zero-mul a

pub one-mul : (a : ℤ) → pos 1 *ℤ a ≡ a
one-mul a = omega (arith, ints)

pub minus_one-mul : (a : ℤ) → negsuc 0 *ℤ a ≡ neg_ℤ a
minus_one-mul a = omega (arith, ints)

pub mul-neg : (a b : ℤ) → a *ℤ neg_ℤ b ≡ neg_ℤ (a *ℤ b)
mul-neg a b =
    let whole = mul-add a b (neg_ℤ b) in
    let none : b +ℤ neg_ℤ b ≡ pos 0 = omega (arith, ints) in
    let nothing = mul-zero a in
    let sum = rw none at whole in
    omega (arith, ints, sum, nothing)

pub neg-mul : (a b : ℤ) → neg_ℤ a *ℤ b ≡ neg_ℤ (a *ℤ b)
neg-mul a b = *ℤ_comm (neg_ℤ a) b ∙ mul-neg b a ∙ ap neg_ℤ (*ℤ_comm b a)

pub mul-sub : (a b c : ℤ) → a *ℤ (b -ℤ c) ≡ a *ℤ b -ℤ a *ℤ c
mul-sub a b c =
    let rest : (b -ℤ c) +ℤ c ≡ b = omega (arith, ints) in
    let whole = mul-add a (b -ℤ c) c in
    let sum = rw rest at whole in
    omega (arith, ints, sum)

pub sub-mul : (a b c : ℤ) → (a -ℤ b) *ℤ c ≡ a *ℤ c -ℤ b *ℤ c
sub-mul a b c =
    let turned = *ℤ_comm (a -ℤ b) c in
    let split = mul-sub c a b in
    let first = *ℤ_comm c a in
    let second = *ℤ_comm c b in
    omega (arith, ints, turned, split, first, second)

-- ---- a positive factor

pub mul_positive : (a b : ℤ) → pos 0 <ℤ a → pos 0 <ℤ b → pos 0 <ℤ (a *ℤ b)
mul_positive a b above also =
    let more : (a *ℤ pos 1) ≤ℤ (a *ℤ b) = mul_mono a (pos 1) b (omega (arith, ints)) (omega (arith, ints)) in
    let turned = *ℤ_comm a (pos 1) in
    let one = one-mul a in
    omega (arith, ints, more, turned, one)

pub mul_not_negative : (a b : ℤ) → pos 0 ≤ℤ a → pos 0 ≤ℤ b → pos 0 ≤ℤ (a *ℤ b)
mul_not_negative a b above also =
    let more : (a *ℤ pos 0) ≤ℤ (a *ℤ b) = mul_mono a (pos 0) b above also in
    let none = mul-zero a in
    omega (arith, ints, more, none)

-- a factor moved aside
pub le_cancel : (g a b : ℤ) → pos 0 <ℤ g → (g *ℤ a) ≤ℤ (g *ℤ b) → a ≤ℤ b
le_cancel g a b above below = by_lt_z b a (λ less. absurd (too_much less)) (λ most. most)
  where
    too_much : b <ℤ a → ⊥
    too_much less =
        let some : pos 0 <ℤ (g *ℤ (a -ℤ b)) = mul_positive g (a -ℤ b) above (omega (arith, ints)) in
        let split = mul-sub g a b in
        omega (arith, ints, some, split, below)

pub cancel : (g a b : ℤ) → pos 0 <ℤ g → g *ℤ a ≡ g *ℤ b → a ≡ b
cancel g a b above same =
    let first = le_cancel g a b above (omega (arith, ints, same)) in
    let second = le_cancel g b a above (omega (arith, ints, same)) in
    omega (arith, ints, first, second)

pub lt_cancel : (g a : ℤ) → pos 0 <ℤ g → pos 0 <ℤ (g *ℤ a) → pos 0 <ℤ a
lt_cancel g a above positive = by_lt_z (pos 0) a (λ some. some) (λ none. absurd (too_little none))
  where
    too_little : a ≤ℤ pos 0 → ⊥
    too_little none =
        let less : (g *ℤ a) ≤ℤ (g *ℤ pos 0) = mul_mono g a (pos 0) (omega (arith, ints)) none in
        let nothing = mul-zero g in
        omega (arith, ints, less, nothing, positive)

pub none_cancel : (g a : ℤ) → pos 0 <ℤ g → g *ℤ a ≡ pos 0 → a ≡ pos 0
none_cancel g a above none = cancel g a (pos 0) above (none ∙ sym (mul-zero g))

-- two factors exchanged
pub mul_swap : (a b c : ℤ) → a *ℤ (b *ℤ c) ≡ b *ℤ (a *ℤ c)
mul_swap a b c = sym (mul_assoc a b c) ∙ ap (λ x. x *ℤ c) (*ℤ_comm a b) ∙ mul_assoc b a c
