use Rattle.pc_branch.proofs.Broken.{all_whole}
use Rattle.pc_branch.proofs.point.first_broken.Goals as goal

pub returns-clause-broken : goal.returns-clause-broken
returns-clause-broken c = all_whole c.args.point.now c.loop-cell.cell c.loop-cell-test.false c.loop-cell.invariant
