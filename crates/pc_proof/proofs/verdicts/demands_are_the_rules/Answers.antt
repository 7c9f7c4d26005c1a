use Rattle.pc_proof.proofs.BlockLines.{demands-are_rules}
use Rattle.pc_proof.proofs.verdicts.demands_are_the_rules.Goals as goal

pub returns : goal.returns
returns c = demands-are_rules
