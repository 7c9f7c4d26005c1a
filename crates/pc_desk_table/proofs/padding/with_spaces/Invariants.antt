use Rattle.std.proofs.Common.{◌≡◌, ◌++◌}
use Rattle.pc_desk_table.specs.Lines.{spaces}
use Rattle.pc_desk_table.proofs.padding.with_spaces.Given as goal

abbrev pub invariant-loop-place : goal.invariant-loop-place
invariant-loop-place l = l.line.items ≡ l.fn.line.items ++ spaces l.place
