use Rattle.pc_desk_limit.proofs.Closed.{closing_regions, closing_rows}
use Rattle.pc_desk_limit.proofs.laws.closing_boxes_hold_what_limits_open.Goals as goal

pub returns : goal.returns
returns c = record { rows = λ schema constraints limits accepted row. closing_rows schema constraints limits row accepted; regions = closing_regions }
