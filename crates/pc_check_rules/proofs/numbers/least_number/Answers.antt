use Rattle.std.proofs.Common.{◌∙◌}
use Rattle.pc_check_rules.proofs.Outermost.{least_further}
use Rattle.pc_check_rules.proofs.numbers.least_number.Goals as goal

pub loop-cell-preserved : goal.loop-cell-preserved
loop-cell-preserved c =
    let l = c.loop-cell in
    least_further l.least c.lesser_with-least.result c.args.scene.now.cells.now l.cell-index c.loop-cell-test.true c.lesser_with-least.ensures ∙ l.invariant
