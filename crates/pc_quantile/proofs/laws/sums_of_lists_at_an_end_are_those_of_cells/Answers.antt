use Rattle.pc_quantile.proofs.Within.{first_at_end, second_at_end}
use Rattle.pc_quantile.proofs.laws.sums_of_lists_at_an_end_are_those_of_cells.Goals as goal

pub returns-clause-first : goal.returns-clause-first
returns-clause-first c = λ s asked lost v list stand. first_at_end s asked list.setting lost v list.possible stand

pub returns-clause-second : goal.returns-clause-second
returns-clause-second c = λ s asked lost v list stand. second_at_end s asked list.setting lost v list.possible stand
