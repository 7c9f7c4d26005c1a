use Rattle.std.proofs.lemmas.Result.{IfOk-weaker}
use Rattle.pc_quantile.proofs.Bounding.{owes_always, owes_between, owes_impossible}
use Rattle.pc_quantile.proofs.bounds.bound.Goals as goal

pub always-requires-clause-lawful : goal.always-requires-clause-lawful
always-requires-clause-lawful c = (rw c.in-Always.is at c.in_ok-ground.ensures.grounded).lawful

pub between-requires-clause-grounds : goal.between-requires-clause-grounds
between-requires-clause-grounds c = (rw (c.in-Open.is, c.is_observed.ensures) at c.in_ok-ground.ensures.grounded)

pub returns-in-Impossible : goal.returns-in-Impossible
returns-in-Impossible c = record {
  owed = λ observed seen_is.
      let shown = (rw c.in-Impossible.is at c.in_ok-ground.ensures.grounded) in
      rw c.impossible.ensures (owes_impossible c.args.measure.now c.requires.measured observed seen_is c.in-Impossible.field-0 shown.0 shown.1);
}

pub returns-in-Always : goal.returns-in-Always
returns-in-Always c = record {
  owed =
      IfOk-weaker c.always.result _ _
      (λ answer is observed seen_is.
      owes_always c.args.measure.now c.requires.measured observed seen_is c.in-Always.field-0 c.in-Always.found answer (rw (c.in-Always.is, c.is_observed.ensures) at c.in_ok-ground.ensures.grounded)
      (λ nested. (rw c.in-Always.is at (c.in_ok-ground.ensures.nested nested))) is)
      c.always.ensures;
}

pub returns : goal.returns
returns c = record {
  owed =
      IfOk-weaker c.between.result _ _
      (λ answer is observed seen_is.
      owes_between c.args.measure.now c.requires.measured observed seen_is c.in-Open.grounds answer (rw (c.in-Open.is, c.is_observed.ensures) at c.in_ok-ground.ensures.grounded)
      (λ nested. (rw (c.in-Open.is, c.is_observed.ensures) at (c.in_ok-ground.ensures.nested nested))) is)
      c.between.ensures;
}
