use Rattle.std.proofs.Common.{◌∙◌}
use Rattle.pc_check_rules.proofs.Outermost.{greatest_further}
use Rattle.pc_check_rules.proofs.numbers.greatest_number.Goals as goal

pub loop-cell-preserved : goal.loop-cell-preserved
loop-cell-preserved c =
    let l = c.loop-cell in
    greatest_further l.greatest c.greater_with-greatest.result c.args.scene.now.cells.now l.cell-index c.loop-cell-test.true c.greater_with-greatest.ensures ∙ l.invariant
