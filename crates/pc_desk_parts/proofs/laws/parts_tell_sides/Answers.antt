use Rattle.pc_desk_parts.proofs.Ends.{tell_sides}
use Rattle.pc_desk_parts.proofs.laws.parts_tell_sides.Goals as goal

pub returns : goal.returns
returns c = λ ask reached observed parts seen numbers are stand. tell_sides ask reached observed parts are stand seen numbers
