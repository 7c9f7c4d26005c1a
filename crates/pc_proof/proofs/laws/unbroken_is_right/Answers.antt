use Rattle.pc_proof.proofs.Sound.{right_from_unbroken}
use Rattle.pc_proof.proofs.laws.unbroken_is_right.Goals as goal

pub returns : goal.returns
returns c = right_from_unbroken
