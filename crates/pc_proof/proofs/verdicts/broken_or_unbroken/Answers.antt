use Rattle.pc_proof.proofs.DocumentLines.{document-whole}
use Rattle.pc_proof.proofs.verdicts.broken_or_unbroken.Goals as goal

pub returns : goal.returns
returns c = document-whole
