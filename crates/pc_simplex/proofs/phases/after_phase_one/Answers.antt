use Rattle.pc_simplex.proofs.PhaseEnds.{multipliers_sound}
use Rattle.pc_simplex.proofs.phases.after_phase_one.Goals as goal

pub returns-then-has_helper-clause-sound : goal.returns-then-has_helper-clause-sound
returns-then-has_helper-clause-sound c floors caps columns =
    multipliers_sound c.args.p.now c.whole-corner.result c.in_ok-mult.mult c.in_ok-mult.ensures.value c.in_ok-mult.ensures.fits
