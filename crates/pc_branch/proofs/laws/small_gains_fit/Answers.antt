use Rattle.pc_branch.proofs.Widths.{HasFitWidth-small}
use Rattle.pc_branch.proofs.laws.small_gains_fit.Goals as goal

pub returns : goal.returns
returns c = HasFitWidth-small
