use Rattle.std.proofs.Common.{ap, ◌∙◌}
use Rattle.std.proofs.lemmas.Result.{IfOk-weaker}
use Rattle.pc_quantile.specs.Answered.{judged, told_lack, told_relation}
use Rattle.pc_quantile.proofs.judged.judge.Goals as goal

pub judge_settled-requires-clause-low : goal.judge_settled-requires-clause-low
judge_settled-requires-clause-low c = rw c.in_ok-settled.ensures.found c.requires.low.0

pub judge_settled-requires-clause-high : goal.judge_settled-requires-clause-high
judge_settled-requires-clause-high c = rw c.in_ok-settled.ensures.found c.requires.high.0

pub returns : goal.returns
returns c =
    let settled = c.in_ok-settled.settled in
    IfOk-weaker c.judge_settled.result _ _
    (λ answer is. record {
      low_end = is.low_end;
      high_end = is.high_end;
      lack = settled.lack;
      low_is = rw c.in_ok-settled.ensures.found at is.low_is;
      high_is = rw c.in_ok-settled.ensures.found at is.high_is;
      lack_is = rw c.as_slice.ensures at c.in_ok-settled.ensures.lack;
      answer_is = rw c.is_observed-observed.ensures at (is.answer_is ∙ ap (λ relation. judged c.is_observed-observed.result (told_relation relation) (told_lack settled.lack) is.low_end is.high_end) (rw c.as_slice.ensures at c.in_ok-settled.ensures.relation));
    })
    c.judge_settled.ensures
