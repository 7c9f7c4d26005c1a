use Rattle.pc_desk_draw.proofs.Holding.{all_held}
use Rattle.pc_desk_draw.proofs.Placing.{within_last}
use Rattle.pc_desk_draw.proofs.laws.all_on_axis.Goals as goal

pub returns : goal.returns
returns c = record { numbers = all_held; places = within_last }
