use Rattle.std.proofs.Common.{◌≡◌, drop}
use Rattle.pc_check_rules.specs.Shown.{least_on}
use Rattle.pc_check_rules.proofs.numbers.least_number.Given as goal

abbrev pub invariant-loop-cell : goal.invariant-loop-cell
invariant-loop-cell l = least_on (drop l.cell-index l.fn.scene.cells.now) l.least ≡ least_on l.fn.scene.cells.now l.fn.scene.seen.least
