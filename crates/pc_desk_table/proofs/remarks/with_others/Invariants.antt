use Rattle.std.proofs.Common.{◌≡◌, ◌++◌, take}
use Rattle.std.specs.List.{flat_map}
use Rattle.pc_desk_table.specs.Remarks.{next_remark}
use Rattle.pc_desk_table.proofs.remarks.with_others.Given as goal

abbrev pub invariant-loop-remark : goal.invariant-loop-remark
invariant-loop-remark l = l.line.items ≡ l.fn.line.items ++ flat_map next_remark (take l.remark-index l.remarks)
