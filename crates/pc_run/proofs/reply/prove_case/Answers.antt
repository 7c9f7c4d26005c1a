use Rattle.pc_run.proofs.Unbroken.{answers_case}
use Rattle.pc_run.proofs.reply.prove_case.Goals as goal

pub returns : goal.returns
returns c = record {
  document = c.in_ok-document.document;
  answers = answers_case c.args.nodes c.args.case.now c.in_ok-document.document c.in_ok-document.ensures.answers c.in_ok-document.ensures.written c.in_ok-document.ensures.formed;
  proved = rw c.new-text.ensures.items at c.in_ok-put_document.ensures.ok;
}
