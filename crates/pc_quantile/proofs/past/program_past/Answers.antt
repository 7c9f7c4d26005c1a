use Rattle.std.specs.Int.{w128}
use Rattle.std.proofs.lemmas.Int.{to_z-of_z}
use Rattle.std.proofs.lemmas.Result.{IfOk-weaker}
use Rattle.std.proofs.Common.{ap, ◌∙◌}
use Rattle.pc_proof.specs.Setting.{cells}
use Rattle.pc_program_bound.specs.CellPrograms.{program_with}
use Rattle.pc_quantile.proofs.Measured.{share}
use Rattle.pc_quantile.proofs.PastPrograms.{all_small, keys_long, past_are, past_long}
use Rattle.pc_quantile.specs.Measure.{cells_for}
use Rattle.pc_quantile.proofs.past.program_past.Goals as goal

pub gains_past-requires-clause-share : goal.gains_past-requires-clause-share
gains_past-requires-clause-share c = share c.args.measure.now c.requires.measured

pub gains_past-requires-clause-keyed : goal.gains_past-requires-clause-keyed
gains_past-requires-clause-keyed c = rw c.as_slice-cells.ensures (keys_long c.args.measure.now.problem c.requires.measured.posed c.args.extreme c.args.keys.now c.requires.keyed)

pub gained_program-requires-clause-sized : goal.gained_program-requires-clause-sized
gained_program-requires-clause-sized c =
    let m = c.args.measure.now in
    past_long m.problem c.requires.measured.posed c.args.extreme c.args.keys.now c.requires.keyed m.asked.now c.args.key c.in_ok-gains.gains
    (past_are m.problem c.requires.measured.posed c.args.extreme c.args.keys.now c.requires.keyed m.asked.now c.args.key c.in_ok-gains.gains (rw (c.as_slice-cells.ensures, to_z-of_z w128 c.args.key c.ranges.key) at c.in_ok-gains.ensures))

pub gained_program-requires-clause-small_gains : goal.gained_program-requires-clause-small_gains
gained_program-requires-clause-small_gains c =
    let m = c.args.measure.now in
    all_small m.problem c.requires.measured.posed c.args.extreme c.args.keys.now c.requires.keyed m.asked.now c.args.key (share m c.requires.measured) c.in_ok-gains.gains
    (past_are m.problem c.requires.measured.posed c.args.extreme c.args.keys.now c.requires.keyed m.asked.now c.args.key c.in_ok-gains.gains (rw (c.as_slice-cells.ensures, to_z-of_z w128 c.args.key c.ranges.key) at c.in_ok-gains.ensures))

pub returns-clause-program : goal.returns-clause-program
returns-clause-program c =
    let m = c.args.measure.now in
    let are = past_are m.problem c.requires.measured.posed c.args.extreme c.args.keys.now c.requires.keyed m.asked.now c.args.key c.in_ok-gains.gains (rw (c.as_slice-cells.ensures, to_z-of_z w128 c.args.key c.ranges.key) at c.in_ok-gains.ensures) in
    IfOk-weaker c.gained_program.result _ _ (λ p is. is ∙ ap (program_with m.problem.constraints.now (cells (cells_for m))) are) c.gained_program.ensures.program
