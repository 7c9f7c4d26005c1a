-- Where ranges begin and end.
use Rattle.std.proofs.Common.{ℕ, ◌+◌, ◌-◌, ◌*◌, ◌/◌, ◌^◌, ◌<◌, ◌≤◌, subst, arith}
use Rattle.std.proofs.lemmas.Nat.{le-div, mul-le}
use Rattle.std.proofs.Math.Nat.{div-le_of_le-mul, div-lt_iff_lt-mul, mul-le-mul_right, mul-lt-mul_of_pos_right, mul_comm}

-- the numbers before a range are no more than there are, and fewer where another range follows
pub steps_within : (k w c : ℕ) → 0 < c → k ≤ c → k * w / c ≤ w
steps_within k w c some there = div-le_of_le-mul c (mul-le-mul_right w there)

pub steps_before : (k w c : ℕ) → 0 < w → k < c → k * w / c < w
steps_before k w c some there =
    let below : k * w < c * w = mul-lt-mul_of_pos_right there some in
    (div-lt_iff_lt-mul {k = c} {x = k * w} {y = w} (omega arith)).1 (subst (λ n. k * w < n) (mul_comm c w) below)

-- with as many numbers as ranges each range has some
pub steps_some : (k w c : ℕ) → 0 < c → c ≤ w → 1 ≤ (k + 1) * w / c
steps_some k w c some few = le-div 1 ((k + 1) * w) c some (mul-le 1 c (k + 1) w (omega arith) few)

-- the products fit
pub product_fits : (k w : ℕ) → k < 2 ^ 64 → w ≤ 2 ^ 64 → k * w < 2 ^ 128
product_fits k w small few =
    let most : k * w ≤ (2 ^ 64 - 1) * 2 ^ 64 = mul-le k w (2 ^ 64 - 1) (2 ^ 64) (omega arith) few in
    omega (arith, most)

pub ruleset fits = (steps_within, product_fits)

pub ruleset ends = (steps_within, steps_before, steps_some)
