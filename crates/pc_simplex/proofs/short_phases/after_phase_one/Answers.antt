use Rattle.pc_simplex.proofs.short_phases.after_phase_one.Goals as goal

pub returns-then-has_helper-clause-sound : goal.returns-then-has_helper-clause-sound
returns-then-has_helper-clause-sound c floors caps is = c.in_ok-void_by.ensures.sound floors caps
