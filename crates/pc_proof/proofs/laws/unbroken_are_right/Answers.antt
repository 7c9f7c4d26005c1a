use Rattle.pc_proof.proofs.DocumentLines.{right-from_document}
use Rattle.pc_proof.proofs.laws.unbroken_are_right.Goals as goal

pub returns : goal.returns
returns c = right-from_document
