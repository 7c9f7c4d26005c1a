use Rattle.pc_simplex.proofs.PhaseEnds.{multipliers_sound}
use Rattle.pc_simplex.proofs.short_phases.void_by.Goals as goal

pub returns-clause-sound : goal.returns-clause-sound
returns-clause-sound c floors caps =
    multipliers_sound c.args.p.now c.short-corner.result c.in_ok-mult.mult c.in_ok-mult.ensures.value c.in_ok-mult.ensures.fits
