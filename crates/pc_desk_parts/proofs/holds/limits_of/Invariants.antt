use Rattle.std.proofs.Common.{◌≡◌, List, take}
use Rattle.pc_model.specs.declared.row.Row.{Row}
use Rattle.pc_desk_parts.specs.Counts.{counts_of}
use Rattle.pc_desk_parts.specs.Held.{limit_at, of_each}
use Rattle.pc_desk_parts.proofs.holds.limits_of.Given as goal

abbrev pub invariant-loop-place : goal.invariant-loop-place
invariant-loop-place l = (lost : List Row) → l.counts ≡ counts_of l.constraints lost → l.held ≡ of_each (limit_at l.constraints lost l.pull l.row) (take l.place l.constraints)
