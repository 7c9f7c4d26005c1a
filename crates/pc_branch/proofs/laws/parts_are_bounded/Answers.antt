use Rattle.pc_branch.proofs.Parts.{bound-less, bound-more, bound-own_less, bound-own_more}
use Rattle.pc_branch.proofs.laws.parts_are_bounded.Goals as goal

pub returns-clause-less : goal.returns-clause-less
returns-clause-less c = bound-less

pub returns-clause-more : goal.returns-clause-more
returns-clause-more c = bound-more

pub returns-clause-own_less : goal.returns-clause-own_less
returns-clause-own_less c = bound-own_less

pub returns-clause-own_more : goal.returns-clause-own_more
returns-clause-own_more c = bound-own_more
