use Rattle.pc_frontier.proofs.Keeping.{splits_keep_fit}
use Rattle.pc_frontier.proofs.laws.splits_in_range_keep_the_fit.Goals as goal

pub returns : goal.returns
returns c = splits_keep_fit
