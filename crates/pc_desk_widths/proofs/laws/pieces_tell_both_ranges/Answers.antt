use Rattle.pc_desk_widths.proofs.TwoRanges.{pieces_tell}
use Rattle.pc_desk_widths.proofs.laws.pieces_tell_both_ranges.Goals as goal

pub returns : goal.returns
returns c = pieces_tell
