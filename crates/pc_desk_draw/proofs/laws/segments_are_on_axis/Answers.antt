use Rattle.pc_desk_draw.proofs.Standing.{all_segments_on}
use Rattle.pc_desk_draw.proofs.laws.segments_are_on_axis.Goals as goal

pub returns : goal.returns
returns c = all_segments_on
