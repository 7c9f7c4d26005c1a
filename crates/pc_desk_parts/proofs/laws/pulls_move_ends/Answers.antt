use Rattle.pc_desk_parts.proofs.Moved.{end_moves}
use Rattle.pc_desk_parts.proofs.laws.pulls_move_ends.Goals as goal

pub returns : goal.returns
returns c = λ ask reached observed row adding above counted attained. end_moves ask reached observed row adding above counted attained
