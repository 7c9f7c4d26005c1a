use Rattle.pc_desk_draw.proofs.Ruling.{ruled}
use Rattle.pc_desk_draw.proofs.laws.ticks_are_round.Goals as goal

pub returns : goal.returns
returns c = ruled
