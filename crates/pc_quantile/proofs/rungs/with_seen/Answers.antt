use Rattle.std.proofs.Common.{◌≡◌, get_or, pos, to_z, of_z, arith}
use Rattle.std.specs.Int.{w64, w128}
use Rattle.std.proofs.lemmas.Int.{ints}
use Rattle.pc_quantile.proofs.SeenKeys.{seen_none, seen_more, seen_all}
use Rattle.pc_quantile.proofs.rungs.with_seen.Goals as goal

pub loop-place-init : goal.loop-place-init
loop-place-init c = seen_none c.args.extreme c.args.keys c.args.seen.now

pub loop-place-preserved : goal.loop-place-preserved
loop-place-preserved c =
    let number = get_or c.args.seen.now c.loop-place.place (pos 0) in
    let read : to_z w64 (of_z w64 number) ≡ number = omega (arith, ints) in
    let key : to_z w128 (of_z w128 c.key_of.result) ≡ c.key_of.result = omega (arith, ints, c.key_of.ensures.small) in
    rw (c.in_ok-push.ensures.ok, key)
    (seen_more c.args.extreme c.args.keys c.args.seen.now c.loop-place.all c.loop-place.place c.key_of.result c.loop-place-test.true c.loop-place.invariant (rw read at c.key_of.ensures.key))

pub returns : goal.returns
returns c = seen_all c.args.extreme c.args.keys c.args.seen.now c.loop-place.all c.loop-place.place (omega (arith, c.loop-place-test.false)) c.loop-place.invariant
