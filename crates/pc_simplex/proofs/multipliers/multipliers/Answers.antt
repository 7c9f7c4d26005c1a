use Rattle.std.proofs.Common.{◌≡◌, to_z, of_z, arith}
use Rattle.std.specs.Int.{w128}
use Rattle.std.proofs.lemmas.Int.{ints}
use Rattle.pc_simplex.proofs.Slacks.{no_multipliers, more_multipliers}
use Rattle.pc_simplex.proofs.multipliers.multipliers.Goals as goal

pub loop-slack-init : goal.loop-slack-init
loop-slack-init c = rw (c.len-slack.ensures, c.new-by.ensures) (no_multipliers c.args.p.now c.args.tableau.now)

pub loop-slack-preserved : goal.loop-slack-preserved
loop-slack-preserved c =
    let fits = c.multiplier.ensures.fits in
    let same : to_z w128 (of_z w128 c.multiplier.result) ≡ c.multiplier.result = omega (arith, ints, fits) in
    rw (c.in_ok-push.ensures.ok, same)
    (more_multipliers c.args.p.now c.args.tableau.now c.loop-slack.slack c.loop-slack.by c.multiplier.result c.loop-slack.invariant c.multiplier.ensures.value c.multiplier.ensures.fits)
