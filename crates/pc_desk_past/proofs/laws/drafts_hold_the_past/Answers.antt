use Rattle.pc_desk_past.proofs.Sound.{drafted_hold}
use Rattle.pc_desk_past.proofs.laws.drafts_hold_the_past.Goals as goal

pub returns : goal.returns
returns c = drafted_hold
