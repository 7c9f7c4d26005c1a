use Rattle.pc_desk_history.proofs.PastPossible.{past_possible}
use Rattle.pc_desk_history.proofs.laws.past_periods_are_possible.Goals as goal

pub returns : goal.returns
returns c = past_possible
