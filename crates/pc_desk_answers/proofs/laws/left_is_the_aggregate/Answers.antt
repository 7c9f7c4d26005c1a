use Rattle.pc_desk_answers.proofs.LeftRows.{left_value}
use Rattle.pc_desk_answers.proofs.laws.left_is_the_aggregate.Goals as goal

pub returns : goal.returns
returns c = left_value
