use Rattle.pc_branch_licences.proofs.Attained.{high-attained, low-attained}
use Rattle.pc_branch_licences.proofs.laws.attained_totals_are_worth_their_bound.Goals as goal

pub returns-clause-high : goal.returns-clause-high
returns-clause-high c = high-attained

pub returns-clause-low : goal.returns-clause-low
returns-clause-low c = low-attained
