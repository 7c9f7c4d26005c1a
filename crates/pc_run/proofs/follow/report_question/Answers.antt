use Rattle.pc_session.specs.Edited.{asked_case}
use Rattle.pc_session.specs.Sessions.{held_by}
use Rattle.pc_run.proofs.Unbroken.{answers_case}
use Rattle.pc_run.proofs.follow.report_question.Goals as goal

pub returns-clause-says : goal.returns-clause-says
returns-clause-says c =
    let asked = c.in_ok-document.ensures in
    record {
      document = c.in_ok-document.document;
      answers = answers_case c.args.nodes (asked_case c.args.session.now.schema (held_by c.args.session.now) c.args.query) c.in_ok-document.document asked.answers asked.written asked.formed;
      reported = rw (c.new-text.ensures.items, asked.schema) at c.in_ok-put_report.ensures.ok;
    }
