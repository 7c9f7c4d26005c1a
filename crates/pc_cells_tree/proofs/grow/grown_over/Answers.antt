use Rattle.std.proofs.Common.{◌≡◌, [], refl, sym, ◌∙◌, subst}
use Rattle.std.proofs.lemmas.List.{nil_from_length}
use Rattle.pc_cells_tree.specs.Knowing.{IsKnown}
use Rattle.pc_cells_tree.proofs.Knowing.{nothing_known}
use Rattle.pc_cells_tree.proofs.Straight.{start-thriving, step-thriving, last_job, ended}
use Rattle.pc_cells_tree.proofs.grow.grown_over.Goals as goal

pub loop-job-init : goal.loop-job-init
loop-job-init c =
    start-thriving c.args.constraints.now c.args.chosen.now c.args.whole c.nothing-known.result c.new.result c.new-2.result c.in_ok-jobs.jobs c.requires.comparable
    (subst (IsKnown c.args.constraints.now c.args.whole) (sym c.nothing-known.ensures) (nothing_known c.args.constraints.now c.args.whole)) c.new.ensures c.new-2.ensures c.in_ok-jobs.ensures.items

pub done-requires-clause-job : goal.done-requires-clause-job
done-requires-clause-job c =
    last_job c.args.constraints.now c.args.chosen.now c.args.whole c.loop-job.work c.pop.new.self.items c.in-Some.job c.loop-job.invariant c.in-Some.ensures.items

pub loop-job-smaller : goal.loop-job-smaller
loop-job-smaller c = rw c.in-Some.ensures.items c.in_ok-work.ensures.less

pub loop-job-preserved : goal.loop-job-preserved
loop-job-preserved c =
    step-thriving c.args.constraints.now c.args.chosen.now c.args.whole c.loop-job.work c.pop.new.self.items c.in-Some.job _ c.in_ok-work.work c.loop-job.invariant c.in-Some.ensures.items refl refl c.in_ok-work.ensures

pub returns : goal.returns
returns c =
    let none : c.loop-job.work.jobs.items ≡ [] = nil_from_length c.loop-job.work.jobs.items (sym c.loop-job.work.jobs.ok.0 ∙ c.in_default.ensures.cases.0) in
    ended c.args.constraints.now c.args.chosen.now c.args.whole c.loop-job.work c.loop-job.invariant none
