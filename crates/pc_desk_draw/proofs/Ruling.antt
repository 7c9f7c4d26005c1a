-- The ticks of an axis are multiples of its round step.
use Rattle.std.proofs.Common.{◌≡◌, ℕ, ◌+◌, ◌*◌, ◌/◌, ◌%◌, ◌<◌, ℤ, pos, negsuc, ◌+ℤ◌, ◌-ℤ◌, ◌*ℤ◌, arith}
use Rattle.std.specs.Prelude.{unsigned_abs}
use Rattle.std.proofs.lemmas.Int.{ints}
use Rattle.std.proofs.Math.IntN.{negsuc-*ℤ-pos, pos-*ℤ-pos}
use Rattle.std.proofs.lemmas.Nat.{div-add-mod', mod_below}
use Rattle.pc_desk_draw.specs.declared.axis.Axis.{Axis}
use Rattle.pc_desk_draw.specs.declared.span.Span.{Span}
use Rattle.pc_desk_draw.specs.Axes.{IsDrawn, axis_of, multiple_below, step_for, stretched, tick_number}
use Rattle.pc_desk_draw.specs.Laws.{IsRuled}
use Rattle.pc_desk_draw.proofs.Holding.{axis_small, length_small, stretched_is}
use Rattle.pc_desk_draw.proofs.Stepping.{step_is}

even_steps : (axis : Axis) (tick : ℕ) → tick_number axis (tick + 1) ≡ tick_number axis tick +ℤ pos axis.step
even_steps axis tick = let more : axis.step * (tick + 1) ≡ axis.step * tick + axis.step = omega arith in rw more (omega (arith, ints))

times_below : (number : ℤ) (step : ℕ) → ℤ
times_below (pos n) step = pos (n / step)
times_below (negsuc n) step = negsuc (n / step)

multiple_is : (step : ℕ) (number : ℤ) → 0 < step → multiple_below step number ≡ times_below number step *ℤ pos step
unfolding times_below
multiple_is step (pos n) some =
    let split : n ≡ n / step * step + n % step = omega (arith, div-add-mod' n step) in
    rw (pos-*ℤ-pos (n / step) step) (omega (arith, ints, split))
multiple_is step (negsuc n) some =
    let split : n ≡ n / step * step + n % step = omega (arith, div-add-mod' n step) in
    let rest = mod_below n step some in
    rw (negsuc-*ℤ-pos (n / step) step) (omega (arith, ints, split, rest))

pub ruled : (span : Span) → IsDrawn span → IsRuled (axis_of span)
unfolding axis_of
ruled span drawn =
    let small = axis_small span drawn in
    let wider = stretched span in
    let step = step_for (unsigned_abs (wider.high -ℤ wider.low)) in
    let found = step_is (unsigned_abs (wider.high -ℤ wider.low)) (length_small wider (stretched_is span drawn).drawn) in
    record {
      round = found.round;
      some = small.some;
      few = small.few;
      start = (times_below wider.low step, multiple_is step wider.low found.some);
      even = even_steps (axis_of span);
    }
