use Rattle.pc_check.proofs.SharedTrees.{own_found}
use Rattle.pc_check.proofs.block_tree.judge_own.Goals as goal

pub returns : goal.returns
returns c = own_found c.args.premises.now c.args.area.now c.args.nodes.now c.args.line c.judge_cuts.result c.judge_cuts.ensures
