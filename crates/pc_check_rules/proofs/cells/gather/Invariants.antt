use Rattle.std.proofs.Common.{take}
use Rattle.pc_check_rules.specs.Cells.{IsGatheredFrom}
use Rattle.pc_check_rules.proofs.cells.gather.Given as goal

abbrev pub invariant-loop-leaf : goal.invariant-loop-leaf
invariant-loop-leaf l = IsGatheredFrom l.column (take l.leaf-index l.leaves) l.gathering
