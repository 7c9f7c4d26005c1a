use Rattle.pc_frontier.proofs.Parting.{leaves_divide}
use Rattle.pc_frontier.proofs.laws.leaves_divide_the_box.Goals as goal

pub returns : goal.returns
returns c = leaves_divide
