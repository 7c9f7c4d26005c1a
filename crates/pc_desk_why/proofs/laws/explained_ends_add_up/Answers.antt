use Rattle.pc_desk_why.proofs.AddedUp.{ends_add_up}
use Rattle.pc_desk_why.proofs.laws.explained_ends_add_up.Goals as goal

pub returns : goal.returns
returns c = ends_add_up
