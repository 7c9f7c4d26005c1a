use Rattle.std.proofs.Common.{arith, ◌≡◌, to_z, of_z}
use Rattle.std.proofs.lemmas.Int.{ints}
use mir.Syntax.{w128}
use Rattle.pc_program.proofs.AllSettled.{AreSettled-pushed}
use Rattle.pc_program.proofs.solving.settle_all.Goals as goal

pub loop-place-preserved : goal.loop-place-preserved
loop-place-preserved c =
    let same : to_z w128 (of_z w128 c.in-Some.by) ≡ c.in-Some.by = omega (arith, ints) in
    AreSettled-pushed c.args.p.now c.loop-place.counts.items c.settle.new.counts.items c.loop-place.multipliers c.push.new.self c.in-Some.by _ c.loop-place.place
    c.requires.one_bits c.loop-place.invariant c.in-Some.ensures same c.in_ok-push.ensures.ok
