use Rattle.std.proofs.Common.{◌≡◌, drop}
use Rattle.pc_check_rules.specs.Shown.{greatest_on}
use Rattle.pc_check_rules.proofs.numbers.greatest_number.Given as goal

abbrev pub invariant-loop-cell : goal.invariant-loop-cell
invariant-loop-cell l = greatest_on (drop l.cell-index l.fn.scene.cells.now) l.greatest ≡ greatest_on l.fn.scene.cells.now l.fn.scene.seen.greatest
