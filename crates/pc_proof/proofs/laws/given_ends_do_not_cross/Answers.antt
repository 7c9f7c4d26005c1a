use Rattle.pc_proof.proofs.Shown.{given_ends}
use Rattle.pc_proof.proofs.laws.given_ends_do_not_cross.Goals as goal

pub returns : goal.returns
returns c = given_ends
