use Rattle.pc_desk_divide.proofs.EqualRanges.{equal_ranges}
use Rattle.pc_desk_divide.proofs.laws.ranges_are_of_equal_width.Goals as goal

pub returns : goal.returns
returns c = equal_ranges
