use Rattle.pc_proof.proofs.Observing.{comes}
use Rattle.pc_proof.proofs.laws.folds_are_observed.Goals as goal

pub returns : goal.returns
returns c = comes
