use Rattle.pc_run.proofs.show.report_conflict.Goals as goal

pub returns : goal.returns
returns c = record {
  answer = c.in_ok-answer.answer;
  found = rw c.as_slice-constraints.ensures at c.in_ok-answer.ensures.found;
  decided = rw c.as_slice-constraints.ensures at c.in_ok-answer.ensures.nested;
  said = rw (c.new-text.ensures.items, c.as_slice-constraints.ensures) at c.in_ok-put_conflict.ensures.ok;
}
