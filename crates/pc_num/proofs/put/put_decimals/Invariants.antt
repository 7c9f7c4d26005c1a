use Rattle.std.proofs.Common.{◌≡◌, ◌≤◌, ◌++◌}
use Rattle.pc_num.specs.Put.{decimals_of}
use Rattle.pc_num.proofs.put.put_decimals.Given as goal

-- what is written and the digits that are left are the whole
abbrev pub invariant-loop-left : goal.invariant-loop-left
invariant-loop-left l = record {
  few : l.left ≤ 6;
  whole : l.out.items ++ decimals_of l.left l.size ≡ l.fn.out.items ++ decimals_of l.count l.size;
}

abbrev pub decreases-loop-left : goal.decreases-loop-left
decreases-loop-left l = l.left
