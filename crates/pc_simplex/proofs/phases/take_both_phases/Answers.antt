use Rattle.std.proofs.lemmas.Result.{IfOk-weaker}
use Rattle.pc_simplex.specs.Ended.{ending_of}
use Rattle.pc_simplex.proofs.PhaseEnds.{one_sound}
use Rattle.pc_simplex.proofs.phases.take_both_phases.Goals as goal

pub returns-in-Some-clause-sound : goal.returns-in-Some-clause-sound
returns-in-Some-clause-sound c =
    IfOk-weaker c.void_at.result _ _ (λ e is. one_sound c.args.p.now c.args.floor.now c.args.cap.now c.in-Some.constraint (ending_of e) is) c.void_at.ensures
