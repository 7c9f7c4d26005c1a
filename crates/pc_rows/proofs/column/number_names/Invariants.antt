use Rattle.std.proofs.Common.{take}
use Rattle.pc_rows.specs.Finding.{IsFinder}
use Rattle.pc_rows.proofs.column.number_names.Given as goal

abbrev pub invariant-loop-place : goal.invariant-loop-place
invariant-loop-place l = IsFinder (take l.place l.names) l.places
