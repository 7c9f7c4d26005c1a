use Rattle.std.proofs.Common.{◌∙◌, sym}
use Rattle.std.proofs.lemmas.Result.{err_from_is_err_and}
use Rattle.pc_desk_divide.proofs.TextSteps.{text_step, text_last, refusal_step}
use Rattle.pc_desk_divide.proofs.reading.divisions_from.Goals as goal

pub returns-in_err-divisions : goal.returns-in_err-divisions
returns-in_err-divisions c =
    let p = err_from_is_err_and c.from_residual.result c.from_residual.ensures.1 in
    rw (p.1, p.2, ← c.loop-first.invariant)
    (refusal_step c.args.columns.now c.loop-first.divisions c.loop-first.rest.now c.in-Some.first.now c.in-Some.after.now c.in_err-divisions.field-0.0 c.in-Some.ensures.pieces c.in_err-divisions.ensures)

pub loop-first-preserved : goal.loop-first-preserved
loop-first-preserved c =
    sym (text_step c.args.columns.now c.loop-first.divisions c.loop-first.rest.now c.in-Some.first.now c.in-Some.after.now c.in_ok-divisions.divisions c.in-Some.ensures.pieces c.in_ok-divisions.ensures)
    ∙ c.loop-first.invariant

pub returns : goal.returns
returns c =
    rw (← c.loop-first.invariant, text_last c.args.columns.now c.loop-first.divisions c.loop-first.rest.now c.in_default.ensures.pieces) c.with_division-2.ensures
