use Rattle.pc_branch.proofs.Sizes.{licence-small}
use Rattle.pc_branch.proofs.laws.licences_are_small.Goals as goal

pub returns : goal.returns
returns c = licence-small
