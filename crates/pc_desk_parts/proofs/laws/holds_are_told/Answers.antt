use Rattle.pc_desk_parts.proofs.Told.{holds_told}
use Rattle.pc_desk_parts.proofs.laws.holds_are_told.Goals as goal

pub returns : goal.returns
returns c = λ ask reached row hold. holds_told ask reached row hold
