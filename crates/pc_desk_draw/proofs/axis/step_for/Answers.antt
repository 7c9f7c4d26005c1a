use Rattle.std.proofs.Common.{◌∙◌, ◌*◌, ◌<◌, ap, sym, rules}
use Rattle.std.proofs.lemmas.Grind.{pow_more}
use Rattle.pc_desk_draw.proofs.Stepping.{at_more}
use Rattle.pc_desk_draw.proofs.axis.step_for.Goals as goal

pub loop-preserved : goal.loop-preserved
loop-preserved c =
    let below : c.loop.counter < 38 = search rules in
    let past : 20 * c.loop.power < c.args.length = search rules in
    record {
      power = ap (λ power. power * 10) c.loop.invariant.power ∙ sym (pow_more 10 c.loop.counter);
      found = at_more c.args.length c.loop.power c.loop.counter below past ∙ c.loop.invariant.found;
    }
