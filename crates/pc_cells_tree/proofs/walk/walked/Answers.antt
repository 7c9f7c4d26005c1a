use Rattle.std.proofs.Common.{◌≡◌, [], refl, sym, ◌∙◌, subst}
use Rattle.pc_cells_tree.specs.Knowing.{IsKnown}
use Rattle.pc_cells_tree.proofs.Knowing.{nothing_known}
use Rattle.std.proofs.lemmas.List.{nil_from_length}
use Rattle.pc_cells_tree.proofs.Walked.{start-under_way, step-under_way, last_task, ended}
use Rattle.pc_cells_tree.proofs.walk.walked.Goals as goal

pub loop-task-init : goal.loop-task-init
loop-task-init c =
    start-under_way c.args.nodes.now c.args.constraints.now c.args.chosen.now c.args.whole c.nothing.result c.new.result c.new-2.result c.in_ok-tasks.tasks c.requires.visit
    (subst (IsKnown c.args.constraints.now c.args.whole) (sym c.nothing.ensures) (nothing_known c.args.constraints.now c.args.whole)) c.new.ensures c.new-2.ensures c.in_ok-tasks.ensures.items

pub stepped-requires-clause-task : goal.stepped-requires-clause-task
stepped-requires-clause-task c =
    last_task c.args.nodes.now c.args.constraints.now c.args.chosen.now c.args.whole c.loop-task.walk c.pop.new.self.items c.in-Some.task c.loop-task.invariant c.in-Some.ensures.items

pub loop-task-smaller : goal.loop-task-smaller
loop-task-smaller c = rw c.in-Some.ensures.items c.in_ok-walk.ensures.less

pub loop-task-preserved : goal.loop-task-preserved
loop-task-preserved c =
    step-under_way c.args.nodes.now c.args.constraints.now c.args.chosen.now c.args.whole c.loop-task.walk c.pop.new.self.items c.in-Some.task _ c.in_ok-walk.walk c.loop-task.invariant c.in-Some.ensures.items refl refl c.in_ok-walk.ensures

pub returns : goal.returns
returns c =
    let none : c.loop-task.walk.tasks.items ≡ [] = nil_from_length c.loop-task.walk.tasks.items (sym c.loop-task.walk.tasks.ok.0 ∙ c.in_default.ensures.cases.0) in
    ended c.args.nodes.now c.args.constraints.now c.args.chosen.now c.args.whole c.loop-task.walk c.loop-task.invariant none
