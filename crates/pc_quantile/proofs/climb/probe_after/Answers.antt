use Rattle.std.proofs.Common.{suc, All, sym, subst}
use Rattle.pc_agg_search.specs.Wants.{IsMet}
use Rattle.pc_proof.specs.Setting.{on_chosen}
use Rattle.pc_quantile.specs.Climbing.{number_on}
use Rattle.pc_quantile.specs.Measure.{cells_for}
use Rattle.pc_quantile.specs.Past.{gain_past}
use Rattle.pc_quantile.proofs.Halving.{all_met}
use Rattle.pc_quantile.proofs.climb.probe_after.Goals as goal

pub probe-requires-clause-met : goal.probe-requires-clause-met
probe-requires-clause-met c =
    let m = c.args.measure.now in
    let ladder = c.args.ladder.now in
    subst (λ p. All (IsMet p) c.args.found) (sym c.in_ok-program.ensures.program)
    (all_met (cells_for m) (on_chosen (gain_past (cells_for m) ladder.extreme m.asked.now (number_on ladder.extreme ladder.rungs (suc c.args.place)))) c.args.found c.requires.lawful)
