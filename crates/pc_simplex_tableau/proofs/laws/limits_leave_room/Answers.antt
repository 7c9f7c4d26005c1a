use Rattle.pc_simplex_tableau.proofs.Limits.{HasRoom-deciding}
use Rattle.pc_simplex_tableau.proofs.laws.limits_leave_room.Goals as goal

pub returns : goal.returns
returns c = HasRoom-deciding
