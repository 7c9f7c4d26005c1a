use Rattle.pc_branch_licences.proofs.Sharp.{sharp-licensed}
use Rattle.pc_branch_licences.proofs.laws.sharp_answers_are_licensed.Goals as goal

pub returns : goal.returns
returns c = sharp-licensed
