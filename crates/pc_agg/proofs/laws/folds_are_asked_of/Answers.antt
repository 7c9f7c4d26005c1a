use Rattle.pc_agg.proofs.Asking.{fold_asks}
use Rattle.pc_agg.proofs.laws.folds_are_asked_of.Goals as goal

pub returns : goal.returns
returns c = fold_asks
