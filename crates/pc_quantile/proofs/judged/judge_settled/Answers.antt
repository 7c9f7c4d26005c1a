use Rattle.pc_quantile.proofs.judged.judge_settled.Goals as goal

pub returns : goal.returns
returns c = record {
  low_end = c.in_ok-low.low;
  high_end = c.in_ok-low.high;
  low_is = rw c.as_slice.ensures at c.in_ok-low.ensures.low;
  high_is = rw c.as_slice.ensures at c.in_ok-low.ensures.high;
  answer_is = rw (c.told_relation.ensures, c.told_lack.ensures) at c.judged.ensures;
}
