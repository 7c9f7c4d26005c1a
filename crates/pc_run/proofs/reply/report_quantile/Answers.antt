use Rattle.pc_run.proofs.reply.report_quantile.Goals as goal

pub returns : goal.returns
returns c = record {
  answer = c.in_ok-answer.answer;
  owes = rw c.as_slice.ensures at c.in_ok-answer.ensures.owes;
  said = rw c.new-text.ensures.items at c.in_ok-put_quantile.ensures.ok;
}
