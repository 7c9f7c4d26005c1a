use Rattle.std.proofs.Common.{◌∙◌, sym}
use Rattle.pc_simplex_tableau.proofs.Running.{run_ends, run_stalls}
use Rattle.pc_simplex_short.specs.Short.{spelled}
use Rattle.pc_simplex_short.proofs.Given.{stays_here}
use Rattle.pc_simplex_short.proofs.Running.{run_further}
use Rattle.pc_simplex_short.proofs.run.take_steps.Goals as goal

pub returns-then-left-eq0-clause-value : goal.returns-then-left-eq0-clause-value
returns-then-left-eq0-clause-value c =
    let l = c.loop-enters in
    let f = c.args.setting.now in
    sym (run_stalls f.columns l.steps (spelled f l.tableau) c.in-Some.enters c.in-Some.ensures.value l.left c.if-left-eq0.true) ∙ l.invariant.same

pub loop-enters-preserved : goal.loop-enters-preserved
loop-enters-preserved c =
    let l = c.loop-enters in
    let taken = c.in-Some-step.ensures in
    rw c.in_ok-push-in-Some-step.ensures.ok
    (run_further c.args.setting.now l.steps l.tableau c.in-Some.enters c.in-Some.ensures.value c.args.most l.left c.in-Some-step.leaves c.args.taken c.args.start
    c.step.new.tableau c.if-left-eq0.false taken.fits taken.value taken.taken taken.short l.invariant)

pub returns-clause-value : goal.returns-clause-value
returns-clause-value c =
    let l = c.loop-enters in
    let f = c.args.setting.now in
    sym (run_ends f.columns l.steps (spelled f l.tableau) l.left c.in_default.ensures.value) ∙ l.invariant.same

pub returns-in-None-clause-given : goal.returns-in-None-clause-given
returns-in-None-clause-given c all =
    let l = c.loop-enters in
    c.in-None.ensures.given (stays_here c.args.setting.now l.left c.in-Some.enters l.tableau c.if-left-eq0.false c.in-Some.ensures.value (l.invariant.stays all))
