use Rattle.std.proofs.Common.{◌∙◌, refl, sym, arith}
use Rattle.std.proofs.lemmas.Result.{err_from_is_err_and}
use Rattle.pc_session.specs.Edited.{Held}
use Rattle.pc_script.proofs.ScriptLines.{script_step, script_last, script_refused}
use Rattle.pc_script.proofs.script.lines_of_text.Goals as goal

pub loop-line-init : goal.loop-line-init
loop-line-init c = record {
  same = rw c.in_ok-reading.ensures.lines refl;
  reading = c.in_ok-reading.ensures.reading c.args.schema.now;
  accepted = rw c.in_ok-reading.ensures.constraints c.requires.accepted;
  counted = omega arith;
}

pub returns-in_err-reading-2-clause-gives : goal.returns-in_err-reading-2-clause-gives
returns-in_err-reading-2-clause-gives c =
    let start : Held = record { rows = c.args.rows.now; constraints = c.args.constraints.now } in
    let p = err_from_is_err_and c.from_residual-in_err-reading-2.result c.from_residual-in_err-reading-2.ensures.1 in
    rw (p.1, p.2, ← c.loop-line.invariant.same)
    (script_refused c.args.schema.now start c.loop-line.place c.loop-line.reading.lines c.loop-line.rest.now c.in-Some.line.now c.in-Some.after.now c.in_err-reading-2.field-0.0 c.in-Some.ensures.pieces (c.in_err-reading-2.ensures.gives start c.loop-line.invariant.reading))

pub loop-line-preserved : goal.loop-line-preserved
loop-line-preserved c =
    let start : Held = record { rows = c.args.rows.now; constraints = c.args.constraints.now } in
    let given = c.in_ok-reading-2.ensures.gives start c.loop-line.invariant.reading in
    record {
      same =
          sym (script_step c.args.schema.now start c.loop-line.place c.loop-line.reading.lines c.loop-line.rest.now c.in-Some.line.now c.in-Some.after.now c.in_ok-reading-2.reading.lines c.in-Some.ensures.pieces given.0)
          ∙ c.loop-line.invariant.same;
      reading = given.1;
      accepted = c.in_ok-reading-2.ensures.accepted;
      counted = omega (arith, c.loop-line.invariant.counted, c.in-Some.ensures.shorter);
    }

pub returns-in_err-reading-3-clause-gives : goal.returns-in_err-reading-3-clause-gives
returns-in_err-reading-3-clause-gives c =
    let start : Held = record { rows = c.args.rows.now; constraints = c.args.constraints.now } in
    let p = err_from_is_err_and c.from_residual-in_err-reading-3.result c.from_residual-in_err-reading-3.ensures.1 in
    rw (p.1, p.2, ← c.loop-line.invariant.same, script_last c.args.schema.now start c.loop-line.place c.loop-line.reading.lines c.loop-line.rest.now c.in_default.ensures.pieces)
    (c.in_err-reading-3.ensures.gives start c.loop-line.invariant.reading)

pub returns-clause-gives : goal.returns-clause-gives
returns-clause-gives c =
    let start : Held = record { rows = c.args.rows.now; constraints = c.args.constraints.now } in
    rw (← c.loop-line.invariant.same, script_last c.args.schema.now start c.loop-line.place c.loop-line.reading.lines c.loop-line.rest.now c.in_default.ensures.pieces)
    (c.in_ok-reading-3.ensures.gives start c.loop-line.invariant.reading).0
