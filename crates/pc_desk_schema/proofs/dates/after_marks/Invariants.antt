use Rattle.std.proofs.Common.{◌≡◌, length}
use Rattle.pc_desk_schema.specs.Dates.{after_marks}
use Rattle.pc_desk_schema.proofs.dates.after_marks.Given as goal

abbrev pub invariant-loop-marks : goal.invariant-loop-marks
invariant-loop-marks l = after_marks l.marks l.text ≡ after_marks l.fn.marks l.fn.text

abbrev pub decreases-loop-marks : goal.decreases-loop-marks
decreases-loop-marks l = length l.marks
