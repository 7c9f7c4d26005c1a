use Rattle.pc_run.proofs.Documents.{blocks_are_accepted, ends_can_be_printed}
use Rattle.pc_run.proofs.Unbroken.{answers_case}
use Rattle.pc_run.proofs.reply.report_case.Goals as goal

pub returns : goal.returns
returns c = record {
  document = c.in_ok-document.document;
  answers = answers_case c.args.nodes c.args.case.now c.in_ok-document.document c.in_ok-document.ensures.answers c.in_ok-document.ensures.written c.in_ok-document.ensures.formed;
  reported = rw c.new-text.ensures.items at c.in_ok-put_report.ensures.ok;
}

pub put_report-requires-clause-queries : goal.put_report-requires-clause-queries
put_report-requires-clause-queries c =
    blocks_are_accepted c.args.nodes c.args.case.now c.in_ok-document.document
    (answers_case c.args.nodes c.args.case.now c.in_ok-document.document c.in_ok-document.ensures.answers c.in_ok-document.ensures.written c.in_ok-document.ensures.formed) c.requires.sound.asked

pub put_report-requires-clause-averages : goal.put_report-requires-clause-averages
put_report-requires-clause-averages c =
    ends_can_be_printed c.args.nodes c.args.case.now c.in_ok-document.document
    (answers_case c.args.nodes c.args.case.now c.in_ok-document.document c.in_ok-document.ensures.answers c.in_ok-document.ensures.written c.in_ok-document.ensures.formed)
