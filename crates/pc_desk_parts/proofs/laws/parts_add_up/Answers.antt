use Rattle.pc_desk_parts.proofs.Ends.{add_up}
use Rattle.pc_desk_parts.proofs.laws.parts_add_up.Goals as goal

pub returns : goal.returns
returns c = λ ask reached observed parts query seen folded attained are. add_up ask reached observed parts query attained are seen folded
