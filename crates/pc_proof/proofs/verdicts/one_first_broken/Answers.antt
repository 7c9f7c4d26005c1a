use Rattle.pc_proof.proofs.DocumentLines.{document-once}
use Rattle.pc_proof.proofs.verdicts.one_first_broken.Goals as goal

pub returns : goal.returns
returns c = document-once
