use Rattle.std.proofs.Common.{◌≡◌, ◌+◌, ℤ, pos, ◌-ℤ◌, ap₂, arith, of_z, to_z, w64}
use Rattle.std.specs.Int.{w128}
use Rattle.std.proofs.lemmas.Int.{ints}
use Rattle.pc_model.specs.declared.region.Side.TheVariants.{Span}
use Rattle.pc_desk_divide.specs.Pieces.{range_start}
use Rattle.pc_desk_divide.proofs.Starts.{steps_before, steps_some, steps_within}
use Rattle.pc_desk_divide.proofs.ranges.range_at.Goals as goal

pub overflow_cast-result-2 : goal.overflow_cast-result-2
overflow_cast-result-2 c =
    let most = steps_within (c.args.place + 1) c.args.width c.args.count (omega (arith, c.requires.there)) (omega (arith, c.requires.there)) in
    let some = steps_some c.args.place c.args.width c.args.count (omega (arith, c.requires.there)) c.requires.few in
    rw c.range_start-end.ensures (grind (arith, ints, most, some, c.requires.fits))

pub returns : goal.returns
returns c =
    let most = steps_within (c.args.place + 1) c.args.width c.args.count (omega (arith, c.requires.there)) (omega (arith, c.requires.there)) in
    let some = steps_some c.args.place c.args.width c.args.count (omega (arith, c.requires.there)) c.requires.few in
    let before = steps_before c.args.place c.args.width c.args.count (omega (arith, c.requires.there, c.requires.few)) c.requires.there in
    let from : to_z w64 (of_z w64 (to_z w128 (of_z w128 (range_start c.args.low c.args.width c.args.count c.args.place)))) ≡ range_start c.args.low c.args.width c.args.count c.args.place =
    omega (arith, ints, before, c.requires.fits) in
    let to : to_z w64 (of_z w64 (to_z w128 (of_z w128 (to_z w128 (of_z w128 (range_start c.args.low c.args.width c.args.count (c.args.place + 1))) -ℤ pos 1)))) ≡ range_start c.args.low c.args.width c.args.count (c.args.place + 1) -ℤ pos 1 =
    omega (arith, ints, most, some, c.requires.fits) in
    let low : to_z w64 (of_z w64 c.args.low) ≡ c.args.low = omega (arith, ints) in
    rw (c.range_start-from.ensures, c.range_start-end.ensures, low) (ap₂ (λ (first last : ℤ). Span first last) from to)
