use Rattle.pc_proof.proofs.BlockLines.{first-once}
use Rattle.pc_proof.proofs.verdicts.one_verdict.Goals as goal

pub returns : goal.returns
returns c = first-once
