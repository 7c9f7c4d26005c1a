use Rattle.std.proofs.Common.{◌≡◌, ◌-ℤ◌, unsigned_abs, arith}
use Rattle.std.proofs.lemmas.Int.{ints}
use Rattle.pc_desk_draw.proofs.Holding.{fits_step}
use Rattle.pc_desk_draw.proofs.axis.axis_of.Goals as goal

pub stepped-requires-clause-fits : goal.stepped-requires-clause-fits
stepped-requires-clause-fits c =
    let drawn = c.stretched-span.ensures.drawn in
    let low = drawn.low in
    let high = drawn.high in
    let far = c.abs_diff.ensures in
    let apart : c.abs_diff.result ≡ unsigned_abs (c.stretched-span.result.high -ℤ c.stretched-span.result.low) = omega (arith, ints, far, low, high) in
    fits_step c.stretched-span.result c.abs_diff.result c.step_for-step.result drawn apart c.step_for-step.ensures
