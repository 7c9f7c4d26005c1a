-- The node in hand is parted where the code reads it, and the search is divided at it.
use Rattle.pc_branch.proofs.Divided.{divides, divides_budget, divided_small}
use Rattle.pc_branch.proofs.search.Search.divide.Goals as goal

pub take_parts-requires-clause-small : goal.take_parts-requires-clause-small
take_parts-requires-clause-small c =
    divided_small c.args.p.now c.args.self.now c.args.hand c.parting-cell.result.0 c.parting-cell.result.1 c.in_ok-less.less c.in_ok-less.more
    c.requires.program c.requires.width c.requires.going (rw c.as_slice.ensures at c.parting-cell.ensures) c.in_ok-less.ensures

pub returns-clause-divided : goal.returns-clause-divided
returns-clause-divided c =
    divides c.args.p.now c.args.self.now c.args.hand c.parting-cell.result.0 c.parting-cell.result.1 c.in_ok-less.less c.in_ok-less.more
    c.requires.program c.requires.width c.requires.going (rw c.as_slice.ensures at c.parting-cell.ensures) c.in_ok-less.ensures
    c.take_parts.result c.take_parts.new.self c.take_parts.ensures.first c.take_parts.ensures.made

pub returns-clause-budget : goal.returns-clause-budget
returns-clause-budget c =
    divides_budget c.args.p.now c.args.self.now c.args.hand c.parting-cell.result.0 c.parting-cell.result.1 c.in_ok-less.less c.in_ok-less.more
    c.requires.program c.requires.width c.requires.going (rw c.as_slice.ensures at c.parting-cell.ensures) c.in_ok-less.ensures
    c.take_parts.result c.take_parts.new.self c.requires.room c.take_parts.ensures.made
