-- The axis of a picture: its ticks are multiples of a round step.
use Rattle.std.specs.Prelude.{◌≡◌, ◌⊎◌, ℕ, zero, suc, ◌*◌, ◌^◌, ◌<◌, ◌≤◌, ℤ, pos, ◌+ℤ◌, ◌-ℤ◌, ◌≤ℤ◌, int_lt, nat_le, unsigned_abs, List, [], ◌∷◌, Option, Some, None, if◌then◌else◌}
use Rattle.std.specs.Int.{div_ceil, int_rem_euclid}
use Rattle.pc_desk_draw.specs.declared.axis.Axis.{Axis}
use Rattle.pc_desk_draw.specs.declared.span.Span.{Span}

-- 1, 2 and 5, and the same times ten, so many times
unfoldable pub round_numbers : ℕ → ℕ → List ℕ
round_numbers power zero = []
round_numbers power (suc left) = power ∷ 2 * power ∷ 5 * power ∷ round_numbers (10 * power) left

-- the first of which four are as long
unfoldable pub first_step : ℕ → List ℕ → ℕ
first_step length [] = 0
first_step length (step ∷ rest) = if nat_le length (4 * step) then step else first_step length rest

-- the least round step of which four are as long
unfoldable pub step_for : ℕ → ℕ
step_for length = first_step length (round_numbers 1 38)

-- one number alone stands on an axis from zero, and zero on one from 0 to 1
abbrev pub from_zero : ℤ → Span
from_zero number =
    if int_lt number (pos 0) then record { low = number; high = pos 0 }
    else if int_lt (pos 0) number then record { low = pos 0; high = number }
    else record { low = pos 0; high = pos 1_000_000 }

abbrev pub stretched : Span → Span
stretched span = if int_lt span.low span.high then span else from_zero span.low

-- the greatest multiple of a step that is not above a number
abbrev pub multiple_below : ℕ → ℤ → ℤ
multiple_below step number = number -ℤ int_rem_euclid number (pos step)

-- as many steps as reach from a start to a number
abbrev pub steps_to : ℕ → ℤ → ℤ → ℕ
steps_to step start number = div_ceil (unsigned_abs (number -ℤ start)) step

abbrev pub stepped : ℕ → Span → Axis
stepped step span =
    record { start = multiple_below step span.low; step = step; steps = steps_to step (multiple_below step span.low) span.high }

abbrev pub axis_over : Span → Axis
axis_over span = stepped (step_for (unsigned_abs (span.high -ℤ span.low))) span

-- the axis on which these numbers stand
unfoldable pub axis_of : Span → Axis
axis_of span = axis_over (stretched span)

abbrev pub axis_between : Option Span → Option Axis
axis_between None = None
axis_between (Some span) = Some (axis_of span)

-- the number of a tick
abbrev pub tick_number : Axis → ℕ → ℤ
tick_number axis tick = axis.start +ℤ pos (axis.step * tick)

-- 1, 2 or 5, times a power of ten
pub record IsRound (step : ℕ) : Type 0 where
  pub power : ℕ
  pub digit : (step ≡ 10 ^ power) ⊎ ((step ≡ 2 * 10 ^ power) ⊎ (step ≡ 5 * 10 ^ power))

-- a number of an axis
pub record IsOn (axis : Axis) (number : ℤ) : Type 0 where
  pub low : axis.start ≤ℤ number
  pub high : number ≤ℤ tick_number axis axis.steps

-- ends and steps that are small enough to count with
pub record IsSmall (axis : Axis) : Type 0 where
  pub some_step : 0 < axis.step
  pub step : axis.step ≤ 5 * 10 ^ 37
  pub some : 0 < axis.steps
  pub few : axis.steps ≤ 5
  pub start : unsigned_abs axis.start ≤ 15 * 10 ^ 37
  pub end : unsigned_abs (tick_number axis axis.steps) ≤ 15 * 10 ^ 37

-- a round step of which four are as long, and which is small enough to count with
pub record IsStepFor (length step : ℕ) : Type 0 where
  pub round : IsRound step
  pub some : 0 < step
  pub small : step ≤ 5 * 10 ^ 37
  pub reach : length ≤ 4 * step

-- numbers that are drawn, in their order
pub record IsDrawn (span : Span) : Type 0 where
  pub low : unsigned_abs span.low ≤ 10 ^ 38
  pub order : span.low ≤ℤ span.high
  pub high : unsigned_abs span.high ≤ 10 ^ 38
