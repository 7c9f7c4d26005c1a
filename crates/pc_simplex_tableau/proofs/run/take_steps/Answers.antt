use Rattle.std.proofs.Common.{◌∙◌, sym}
use Rattle.pc_simplex_tableau.proofs.Running.{run_ends, run_stalls, run_wide, run_more}
use Rattle.pc_simplex_tableau.proofs.run.take_steps.Goals as goal

pub returns-then-left-eq0-clause-value : goal.returns-then-left-eq0-clause-value
returns-then-left-eq0-clause-value c =
    let l = c.loop-enters in
    sym (run_stalls c.args.columns.now l.steps l.tableau c.in-Some.enters c.in-Some.ensures.value l.left c.if-left-eq0.true) ∙ l.invariant.same

pub returns-in-None-clause-value : goal.returns-in-None-clause-value
returns-in-None-clause-value c =
    let l = c.loop-enters in
    sym (run_wide c.args.columns.now l.steps l.tableau c.in-Some.enters c.in-Some.ensures.value l.left c.if-left-eq0.false c.in-None.ensures.value) ∙ l.invariant.same

pub loop-enters-preserved : goal.loop-enters-preserved
loop-enters-preserved c =
    let l = c.loop-enters in
    let taken = c.in-Some-step.ensures in
    rw c.in_ok-push-in-Some-step.ensures.ok
    (run_more c.args.columns.now l.steps l.tableau c.in-Some.enters c.in-Some.ensures.value c.args.most l.left c.in-Some-step.leaves c.args.taken c.args.start c.step.new.tableau
    c.if-left-eq0.false taken.value.0 taken.value.1 taken.taken taken.sized taken.fits l.invariant)

pub returns-clause-value : goal.returns-clause-value
returns-clause-value c =
    let l = c.loop-enters in
    sym (run_ends c.args.columns.now l.steps l.tableau l.left c.in_default.ensures.value) ∙ l.invariant.same
