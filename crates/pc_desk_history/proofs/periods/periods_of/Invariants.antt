use Rattle.std.proofs.Common.{◌≡◌, take}
use Rattle.pc_desk_history.specs.Periods.{periods_of, rows_in}
use Rattle.pc_desk_history.proofs.periods.periods_of.Given as goal

abbrev pub invariant-loop-place : goal.invariant-loop-place
invariant-loop-place l = l.periods.keys ≡ periods_of l.per (rows_in l.area (take l.place l.rows))
