use Rattle.std.proofs.Common.{◌≡◌, take}
use Rattle.pc_desk_divide.specs.Cells.{narrowed_boxes}
use Rattle.pc_desk_divide.proofs.cutting.narrowed_boxes.Given as goal

abbrev pub invariant-loop-region : goal.invariant-loop-region
invariant-loop-region l = l.new ≡ narrowed_boxes l.fn.column l.fn.piece (take l.region-index l.boxes)
