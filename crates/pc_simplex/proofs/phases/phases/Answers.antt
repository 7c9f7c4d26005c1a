use Rattle.pc_simplex.proofs.Settings.{columns_are}
use Rattle.pc_simplex.proofs.phases.phases.Goals as goal

pub take_short_phases-requires-clause-columns : goal.take_short_phases-requires-clause-columns
take_short_phases-requires-clause-columns c =
    rw c.requires.columns (columns_are c.args.p.now c.args.floor.now c.args.cap.now c.requires.program c.requires.inside c.requires.few)
