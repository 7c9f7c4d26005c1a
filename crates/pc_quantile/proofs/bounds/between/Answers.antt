use Rattle.std.proofs.lemmas.Result.{IfOk-weaker}
use Rattle.pc_quantile.specs.declared.bounds.Pair.TheVariants as pairs
use Rattle.pc_quantile.specs.Measure.{cells_for}
use Rattle.pc_quantile.proofs.Pairs.{can_high, can_low, lawful_both}
use Rattle.pc_quantile.proofs.bounds.between.Goals as goal

pub judge-requires-clause-lawful : goal.judge-requires-clause-lawful
judge-requires-clause-lawful c =
    lawful_both (cells_for c.args.measure.now) c.args.measure.now.problem.nodes c.args.measure.now.seen.now c.args.measure.now.asked.now c.args.grounds.found c.in-At.low c.in-At.high c.in-At.found
    (rw c.in-At.is at c.in_ok-stand_both.ensures.pair) c.requires.grounds.lawful

pub judge-requires-clause-low : goal.judge-requires-clause-low
judge-requires-clause-low c =
    can_low (cells_for c.args.measure.now) c.args.measure.now.problem.nodes c.args.measure.now.seen.now c.args.measure.now.asked.now c.args.grounds.found c.in-At.low c.in-At.high c.in-At.found
    (rw c.in-At.is at c.in_ok-stand_both.ensures.pair) c.requires.grounds.lawful

pub judge-requires-clause-high : goal.judge-requires-clause-high
judge-requires-clause-high c =
    can_high (cells_for c.args.measure.now) c.args.measure.now.problem.nodes c.args.measure.now.seen.now c.args.measure.now.asked.now c.args.grounds.found c.in-At.low c.in-At.high c.in-At.found
    (rw c.in-At.is at c.in_ok-stand_both.ensures.pair) c.requires.grounds.lawful

pub returns-in-Empty : goal.returns-in-Empty
returns-in-Empty c = record {
  pair = pairs.Empty;
  pair_is = rw c.in-Empty.is at c.in_ok-stand_both.ensures.pair;
  sure = λ nested some. tt;
  answer_is = c.impossible.ensures;
}

pub returns-in-At : goal.returns-in-At
returns-in-At c =
    IfOk-weaker c.judge.result _ _
    (λ answer is. record {
      pair = pairs.At c.in-At.low c.in-At.high c.in-At.found;
      pair_is = rw c.in-At.is at c.in_ok-stand_both.ensures.pair;
      sure = λ nested some. rw c.in-At.is at (c.in_ok-stand_both.ensures.nested nested some);
      answer_is = is;
    })
    c.judge.ensures
