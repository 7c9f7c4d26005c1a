use Rattle.pc_quantile.proofs.Within.{first_lists, second_lists}
use Rattle.pc_quantile.proofs.laws.sums_of_lists_are_within_those_of_cells.Goals as goal

pub returns-clause-first : goal.returns-clause-first
returns-clause-first c = λ s asked lost v list. first_lists s asked list.setting lost v list.possible

pub returns-clause-second : goal.returns-clause-second
returns-clause-second c = λ s asked lost v list. second_lists s asked list.setting lost v list.possible
