use Rattle.std.proofs.Common.{subst}
use Rattle.std.proofs.lemmas.Result.{IfOk-weaker}
use Rattle.pc_cells_tree.specs.Knowing.{IsDecision}
use Rattle.pc_cells_tree.proofs.Straight.{leaf-job, opened-job}
use Rattle.pc_cells_tree.proofs.grow.sprout.Goals as goal

pub opened-requires-clause-filled : goal.opened-requires-clause-filled
opened-requires-clause-filled c = c.requires.comparable.filled

pub opened-requires-clause-divided : goal.opened-requires-clause-divided
opened-requires-clause-divided c = (subst (IsDecision c.args.constraints.now c.args.chosen.now c.args.part) c.in-Divided.is c.decide.ensures).0.divides

pub returns-in_ok-growth-in-Settled : goal.returns-in_ok-growth-in-Settled
returns-in_ok-growth-in-Settled c =
    leaf-job c.args.constraints.now c.args.chosen.now c.args.work c.args.part c.args.known c.in-Settled.mark c.in_ok-growth-in-Settled.growth
    (subst (IsDecision c.args.constraints.now c.args.chosen.now c.args.part) c.in-Settled.is c.decide.ensures) c.in_ok-growth-in-Settled.ensures

pub returns-in-Divided : goal.returns-in-Divided
returns-in-Divided c =
    let says = subst (IsDecision c.args.constraints.now c.args.chosen.now c.args.part) c.in-Divided.is c.decide.ensures in
    IfOk-weaker c.opened.result _ _
    (opened-job c.args.constraints.now c.args.chosen.now c.args.part c.args.known c.in-Divided.known c.in-Divided.at c.requires.comparable says.0 says.1 c.args.work) c.opened.ensures
