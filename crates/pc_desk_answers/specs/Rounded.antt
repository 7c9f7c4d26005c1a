-- Fractions as decimals with six places.
use Rattle.std.specs.Prelude.{ℕ, ℤ, pos, int_lt, ◌+◌, ◌-◌, ◌*◌, ◌/◌, ◌^◌, ◌&&◌, nat_le, nat_lt, Bool, true, false, unsigned_abs, Option, Some, None, if◌then◌else◌}
use Rattle.pc_num.specs.Scaled.{signed}
use Rattle.pc_num.specs.declared.fraction.Frac.{Frac}
use Rattle.pc_desk_answers.specs.declared.rounding.Rounding.{Rounding}
use Rattle.pc_desk_answers.specs.declared.rounding.Rounding.TheVariants as roundings

-- a quotient of sizes to a whole number: the last that is not above it, the first that is not below it, and the nearest
abbrev pub floor : ℕ → ℕ → ℕ
floor size den = size / den

abbrev pub ceiling : ℕ → ℕ → ℕ
ceiling size den = (size + (den - 1)) / den

abbrev pub nearest : ℕ → ℕ → ℕ
nearest size den = (2 * size + den) / (2 * den)

-- down is away from 0 for a number below 0
abbrev pub rounded : Rounding → Bool → ℕ → ℕ → ℕ
rounded roundings.Down true size den = ceiling size den
rounded roundings.Down false size den = floor size den
rounded roundings.Up true size den = floor size den
rounded roundings.Up false size den = ceiling size den
rounded roundings.Nearest minus size den = nearest size den

-- the greatest size of the two numbers of a fraction that is rounded, so that its millionths fit
abbrev pub limit : ℕ
limit = 10 ^ 31

abbrev pub is_small : Frac → Bool
is_small value = nat_le (unsigned_abs value.num) limit && (nat_lt 0 (unsigned_abs value.den) && nat_le (unsigned_abs value.den) limit)

abbrev pub is_below_zero : Frac → Bool
is_below_zero value = int_lt value.num (pos 0)

-- a fraction over a number above 0, in millionths
abbrev pub in_millionths : Rounding → Frac → ℤ
in_millionths rounding value =
    signed (is_below_zero value) (rounded rounding (is_below_zero value) (unsigned_abs value.num * 1_000_000) (unsigned_abs value.den))

unfoldable pub millionths_of : Rounding → Frac → Option ℤ
millionths_of rounding value = if is_small value then Some (in_millionths rounding value) else None
