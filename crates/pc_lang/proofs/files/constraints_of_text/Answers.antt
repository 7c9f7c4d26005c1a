use Rattle.std.proofs.Common.{◌∙◌, sym, arith}
use Rattle.std.proofs.lemmas.Result.{err_from_is_err_and}
use Rattle.pc_lang.proofs.FileLines.{file_step, file_last, refusal_step}
use Rattle.pc_lang.proofs.files.constraints_of_text.Goals as goal

pub returns-in_err-constraints-clause-gives : goal.returns-in_err-constraints-clause-gives
returns-in_err-constraints-clause-gives c =
    let p = err_from_is_err_and c.from_residual.result c.from_residual.ensures.1 in
    rw (p.1, p.2, ← c.loop-line.invariant.same)
    (refusal_step c.args.schema.now c.loop-line.place c.loop-line.constraints c.loop-line.rest.now c.in-Some.line.now c.in-Some.after.now c.in_err-constraints.field-0.0 c.in-Some.ensures.pieces c.in_err-constraints.ensures.gives)

pub loop-line-preserved : goal.loop-line-preserved
loop-line-preserved c = record {
  same =
      sym (file_step c.args.schema.now c.loop-line.place c.loop-line.constraints c.loop-line.rest.now c.in-Some.line.now c.in-Some.after.now c.in_ok-constraints.constraints c.in-Some.ensures.pieces c.in_ok-constraints.ensures.gives)
      ∙ c.loop-line.invariant.same;
  accepted = c.in_ok-constraints.ensures.accepted;
  counted = omega (arith, c.loop-line.invariant.counted, c.in-Some.ensures.shorter);
}

pub returns-clause-gives : goal.returns-clause-gives
returns-clause-gives c =
    rw (← c.loop-line.invariant.same, file_last c.args.schema.now c.loop-line.place c.loop-line.constraints c.loop-line.rest.now c.in_default.ensures.pieces) c.with_line_at-2.ensures.gives
