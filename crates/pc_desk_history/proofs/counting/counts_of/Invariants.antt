use Rattle.std.proofs.Common.{◌≡◌, take}
use Rattle.pc_desk_history.specs.Periods.{counts_of, rows_in}
use Rattle.pc_desk_history.proofs.counting.counts_of.Given as goal

abbrev pub invariant-loop-place : goal.invariant-loop-place
invariant-loop-place l = l.counts.items ≡ counts_of l.per l.periods.keys (rows_in l.area (take l.place l.rows))
