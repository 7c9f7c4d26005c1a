use Rattle.pc_desk_draw.proofs.Placing.{placing}
use Rattle.pc_desk_draw.proofs.laws.places_rise.Goals as goal

pub returns : goal.returns
returns c = placing
