use Rattle.std.proofs.Common.{subst, ◌∙◌}
use Rattle.pc_agg.specs.Falling.{IsFallingOf}
use Rattle.pc_quantile.proofs.PastPrograms.{keys_long}
use Rattle.pc_quantile.proofs.RungKeys.{are_rungs}
use Rattle.std.proofs.lemmas.Result.{IfOk-weaker}
use Rattle.pc_quantile.proofs.rungs.rungs_of.Goals as goal

pub chosen_keys-requires : goal.chosen_keys-requires
chosen_keys-requires c = record { keyed = rw c.as_slice-cells.ensures (keys_long c.args.measure.now.problem c.requires.measured.posed c.args.extreme c.args.keys.now c.requires.keyed) }

pub returns : goal.returns
returns c =
    let m = c.args.measure.now in
    IfOk-weaker c.falling_of.result _ _
    (λ rungs falling. are_rungs m.problem c.requires.measured.posed c.args.extreme c.args.keys.now c.requires.keyed m.seen.now c.in_ok-chosen.chosen (rw c.as_slice-cells.ensures at c.in_ok-chosen.ensures)
    c.args.picks.now c.requires.picked c.requires.measured.small_seen rungs (subst (λ numbers. IsFallingOf numbers rungs) (c.into_vec.ensures ∙ c.in_ok-all.ensures) falling)) c.falling_of.ensures
