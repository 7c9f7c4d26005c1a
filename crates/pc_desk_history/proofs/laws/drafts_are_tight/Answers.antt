use Rattle.pc_desk_history.proofs.Tight.{drafted_tight}
use Rattle.pc_desk_history.proofs.laws.drafts_are_tight.Goals as goal

pub returns : goal.returns
returns c = drafted_tight
