use Rattle.std.proofs.Common.{subst}
use Rattle.pc_check_rules.specs.Cuts.{IsCutFinding}
use Rattle.pc_check.proofs.SharedTrees.{same_halted, same_settled}
use Rattle.pc_check.proofs.block_tree.judge_same.Goals as goal

pub returns-in-Ok : goal.returns-in-Ok
returns-in-Ok c =
    let premises = c.args.premises.now in
    same_settled premises c.args.area.now c.args.nodes.now c.args.line c.in-Ok.leaves
    (subst (IsCutFinding 0 premises.schema.now premises.constraints.now c.args.area.now c.args.nodes.now) c.in-Ok.is c.judge_cuts.ensures)

pub returns-in-Err : goal.returns-in-Err
returns-in-Err c =
    let premises = c.args.premises.now in
    rw c.moved_to.ensures
    (same_halted premises c.args.area.now c.args.nodes.now c.args.line c.in-Err.halt
    (subst (IsCutFinding 0 premises.schema.now premises.constraints.now c.args.area.now c.args.nodes.now) c.in-Err.is c.judge_cuts.ensures))
