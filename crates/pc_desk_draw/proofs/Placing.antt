-- An axis holds what it was made for, and places are within the last one, in the order of their numbers.
use Rattle.std.proofs.Common.{◌≡◌, ℕ, zero, suc, ◌+◌, ◌*◌, ◌/◌, ◌^◌, ◌<◌, ◌≤◌, ℤ, pos, negsuc, ◌+ℤ◌, ◌-ℤ◌, ◌<ℤ◌, ◌≤ℤ◌, unsigned_abs, Bool, true, false, arith, lit<}
use Rattle.std.specs.Prelude.{nat_lt, if◌then◌else◌}
use Rattle.std.specs.Int.{div_ceil}
use Rattle.std.proofs.lemmas.Grind.{div_ceil_times}
use Rattle.std.proofs.lemmas.Int.{ints}
use Rattle.std.proofs.lemmas.Nat.{le-div, mod_below}
use Rattle.std.proofs.Math.Nat.{div-le_of_le-mul, div-mul-le_self, div-zero, mul-le-mul_left, mul-pos, mul-le-mul_right}
use Rattle.std.proofs.Common.{inl, inr}
use Rattle.pc_desk_draw.proofs.Stepping.{le_or_lt}
use Rattle.pc_desk_draw.specs.declared.axis.Axis.{Axis}
use Rattle.pc_desk_draw.specs.declared.span.Span.{Span}
use Rattle.pc_desk_draw.specs.Axes.{IsDrawn, IsOn, IsSmall, IsStepFor, multiple_below, stepped, tick_number}
use Rattle.pc_desk_draw.specs.Places.{IsSpanOn, axis_length, place_of, proportion}

-- ---- the start

pub below_is : (step : ℕ) (number : ℤ) → 0 < step → (multiple_below step number ≤ℤ number) × (number <ℤ (multiple_below step number +ℤ pos step))
below_is step (pos n) some =
    let rest = mod_below n step some in
    (omega (arith, ints, rest), omega (arith, ints, rest))
below_is step (negsuc n) some =
    let rest = mod_below n step some in
    (omega (arith, ints, rest), omega (arith, ints, rest))

-- ---- the steps

few_by : (count step whole : ℕ) → whole ≤ 5 * step → count * step < whole + step → count ≤ 5
few_by count step whole few last =
    elim (le_or_lt count 5) [
      | inl within ↦ within
      | inr more ↦ absurd (let six : 6 * step ≤ count * step = mul-le-mul_right step more in let no : ⊥ = omega (arith, six, few, last) in no)
    ]

pub few_steps : (whole step : ℕ) → 0 < step → whole ≤ 5 * step → div_ceil whole step ≤ 5
few_steps whole step some few = few_by (div_ceil whole step) step whole few (div_ceil_times whole step some).1

some_by : (count step whole : ℕ) → 0 < whole → whole ≤ count * step → 0 < count
some_by zero step whole some reach = absurd (let none : zero * step ≡ 0 = omega arith in let no : ⊥ = omega (arith, none, some, reach) in no)
some_by (suc count) step whole some reach = omega arith

-- the axis over a span is small, and holds it
module _ (step : ℕ) (span : Span) (drawn : IsDrawn span) (order : span.low <ℤ span.high) (fits : IsStepFor (unsigned_abs (span.high -ℤ span.low)) step) where
  abbrev start : ℤ
  start = multiple_below step span.low

  abbrev whole : ℕ
  whole = unsigned_abs (span.high -ℤ start)

  start_is : (start ≤ℤ span.low) × (span.low <ℤ (start +ℤ pos step))
  start_is = below_is step span.low fits.some

  whole_few : whole ≤ 5 * step
  whole_few = let a = start_is.0 in let b = start_is.1 in let c = fits.reach in omega (arith, ints, a, b, c, order)

  ceil_is : (whole ≤ div_ceil whole step * step) × (div_ceil whole step * step < whole + step)
  ceil_is = div_ceil_times whole step fits.some

  end_is : (span.high ≤ℤ (start +ℤ pos (step * div_ceil whole step))) × ((start +ℤ pos (step * div_ceil whole step)) <ℤ (span.high +ℤ pos step))
  end_is =
      let low = start_is.0 in
      let reach = ceil_is.0 in
      let near = ceil_is.1 in
      (omega (arith, ints, low, reach, order), omega (arith, ints, low, near, order))

  pub stepped_small : IsSmall (stepped step span)
  stepped_small =
      let below = start_is.0 in
      let above = start_is.1 in
      let reach = end_is.0 in
      let near = end_is.1 in
      let low = drawn.low in
      let high = drawn.high in
      let small = fits.small in
      record {
        some_step = fits.some;
        step = small;
        some = some_by (div_ceil whole step) step whole (omega (arith, ints, below, order)) ceil_is.0;
        few = few_steps whole step fits.some whole_few;
        start = omega (arith, ints, below, above, low, small);
        end = omega (arith, ints, reach, near, high, small);
      }

  pub stepped_on : IsSpanOn (stepped step span) span
  stepped_on = record { low = start_is.0; order = drawn.order; high = end_is.0 }

pub ruleset axes = (below_is, few_steps, stepped_small)

-- ---- ticks

module _ (axis : Axis) (tick : ℕ) (small : IsSmall axis) (within : tick ≤ axis.steps) where
  tick_reach : axis.step * tick ≤ axis.step * axis.steps
  tick_reach = mul-le-mul_left axis.step within

  pub tick_on : IsOn axis (tick_number axis tick)
  tick_on = let reach = tick_reach in record { low = omega (arith, ints); high = omega (arith, ints, reach) }

  pub tick_small : unsigned_abs (tick_number axis tick) ≤ 15 * 10 ^ 37
  tick_small =
      let reach = tick_reach in
      let start = small.start in
      let end = small.end in
      omega (arith, ints, reach, start, end)

  pub tick_far : axis.step * tick ≤ 3 * 10 ^ 38
  tick_far =
      let reach = tick_reach in
      let start = small.start in
      let end = small.end in
      omega (arith, ints, reach, start, end)

pub ruleset ticks = (tick_on, tick_small, tick_far)

-- ---- places

pub distance : (axis : Axis) (number : ℤ) → IsOn axis number → unsigned_abs (number -ℤ axis.start) ≤ axis_length axis
distance axis number on = let low = on.low in let high = on.high in omega (arith, ints, low, high)

pub some_length : (axis : Axis) → IsSmall axis → 0 < axis_length axis
some_length axis small = mul-pos small.some_step small.some

pub small_length : (axis : Axis) → IsSmall axis → axis_length axis ≤ 3 * 10 ^ 38
small_length axis small = tick_far axis axis.steps small (omega arith)

pub ruleset distances = (distance, some_length, small_length)

pub proportion_within : (last part whole : ℕ) → part ≤ whole → proportion last part whole ≤ last
proportion_within last part whole within = div-le_of_le-mul whole (let more = mul-le-mul_right last within in omega (arith, more))

pub product_small : (last part : ℕ) → last ≤ 1000 → part ≤ 3 * 10 ^ 35 → part * last ≤ 3 * 10 ^ 38
product_small last part few small =
    let one : part * last ≤ part * 1000 = mul-le-mul_left part few in
    omega (arith, one, small)

pub ruleset proportions = (proportion_within, product_small)

quotients : (a b k : ℕ) → 0 < k → a ≤ b → a / k ≤ b / k
quotients a b k some below = le-div (a / k) b k some (let part = div-mul-le_self a k in omega (arith, part, below))

pub thousand_parts : (part whole : ℕ) → part ≤ whole → part / 1000 ≤ whole / 1000
thousand_parts part whole within = quotients part whole 1000 (lit< tt) within

pub some_thousands : (whole : ℕ) → 10 ^ 35 ≤ whole → 0 < whole / 1000
some_thousands whole long = le-div 1 whole 1000 (lit< tt) (omega (arith, long))

pub few_thousands : (whole : ℕ) → whole ≤ 3 * 10 ^ 38 → whole / 1000 ≤ 3 * 10 ^ 35
few_thousands whole small = div-le_of_le-mul 1000 (omega (arith, small))

pub ruleset thousands = (thousand_parts, some_thousands, few_thousands)

-- ---- a greater number has no lesser place

zero_quotient : (n : ℕ) → n / 0 ≡ 0
zero_quotient n = div-zero n

shares_by : (last part more whole : ℕ) → part ≤ more → proportion last part whole ≤ proportion last more whole
shares_by last part more zero order = rw (zero_quotient (part * last)) (omega arith)
shares_by last part more (suc whole) order = quotients (part * last) (more * last) (suc whole) (omega arith) (mul-le-mul_right last order)

by_length : (test : Bool) (last part more whole : ℕ) → part ≤ more
    → (if test then proportion last part whole else proportion last (part / 1000) (whole / 1000)) ≤ (if test then proportion last more whole else proportion last (more / 1000) (whole / 1000))
by_length true last part more whole order = shares_by last part more whole order
by_length false last part more whole order = shares_by last (part / 1000) (more / 1000) (whole / 1000) (thousand_parts part more order)

farther : (start number greater : ℤ) → start ≤ℤ number → number ≤ℤ greater → unsigned_abs (number -ℤ start) ≤ unsigned_abs (greater -ℤ start)
farther start number greater above order = omega (arith, ints)

pub placing : (axis : Axis) (last : ℕ) (number greater : ℤ) → axis.start ≤ℤ number → number ≤ℤ greater → place_of axis last number ≤ place_of axis last greater
unfolding place_of
placing axis last number greater above order =
    by_length (nat_lt (axis_length axis) (10 ^ 35)) last (unsigned_abs (number -ℤ axis.start)) (unsigned_abs (greater -ℤ axis.start)) (axis_length axis)
    (farther axis.start number greater above order)

share_by : (test : Bool) (last part whole : ℕ) → part ≤ whole → (if test then proportion last part whole else proportion last (part / 1000) (whole / 1000)) ≤ last
share_by true last part whole within = proportion_within last part whole within
share_by false last part whole within = proportion_within last (part / 1000) (whole / 1000) (thousand_parts part whole within)

pub within_last : (axis : Axis) (last : ℕ) (number : ℤ) → IsOn axis number → place_of axis last number ≤ last
unfolding place_of
within_last axis last number on =
    share_by (nat_lt (axis_length axis) (10 ^ 35)) last (unsigned_abs (number -ℤ axis.start)) (axis_length axis) (distance axis number on)
