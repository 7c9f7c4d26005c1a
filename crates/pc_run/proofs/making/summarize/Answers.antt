use Rattle.std.proofs.Common.{◌≡◌, ◌*◌, length, subst}
use Rattle.std.proofs.lemmas.Result.{IfOk-weaker}
use Rattle.pc_rows.specs.declared.case.Case.{Case}
use Rattle.pc_run_words.specs.Words.{usual_nodes}
use Rattle.pc_gen.specs.Generated.{generated_case}
use Rattle.pc_gen.proofs.Accepted.{constraints_accepted}
use Rattle.pc_gen.proofs.DrawnRows.{rows_allowed}
use Rattle.pc_gen.proofs.Tables.{schema_formed}
use Rattle.pc_run.specs.Answers.{AnswersCase}
use Rattle.pc_report.specs.Summary.{summary_text}
use Rattle.pc_run.specs.Replies.{SaysSummary}
use Rattle.pc_run.proofs.Documents.{blocks_are_accepted, ends_can_be_printed}
use Rattle.pc_run.proofs.MadeCases.{case_is, made_asked, none_is_impossible}
use Rattle.pc_run.proofs.Unbroken.{answers_case}
use Rattle.pc_run.proofs.making.summarize.Goals as goal

pub answer_all-requires-clause-well_formed : goal.answer_all-requires-clause-well_formed
answer_all-requires-clause-well_formed c = rw c.in_ok-case.ensures.schema schema_formed

pub answer_all-requires-clause-seen : goal.answer_all-requires-clause-seen
answer_all-requires-clause-seen c = rw (c.in_ok-case.ensures.schema, c.in_ok-case.ensures.rows) (rows_allowed (100 * c.args.command.now.size) c.args.command.now.seed)

pub answer_all-requires-clause-accepted : goal.answer_all-requires-clause-accepted
answer_all-requires-clause-accepted c = rw (c.in_ok-case.ensures.schema, c.in_ok-case.ensures.constraints) (constraints_accepted c.args.command.now.seed c.args.command.now.size c.requires.small)

pub answer_all-requires-clause-asked : goal.answer_all-requires-clause-asked
answer_all-requires-clause-asked c = rw (c.in_ok-case.ensures.schema, c.in_ok-case.ensures.queries) made_asked

pub summary_of-requires-clause-well_formed : goal.summary_of-requires-clause-well_formed
summary_of-requires-clause-well_formed c = rw c.in_ok-case.ensures.schema schema_formed

pub summary_of-requires-clause-queries : goal.summary_of-requires-clause-queries
summary_of-requires-clause-queries c =
    let answers = answers_case usual_nodes c.in_ok-case.case c.in_ok-document.document c.in_ok-document.ensures.answers c.in_ok-document.ensures.written c.in_ok-document.ensures.formed in
    blocks_are_accepted usual_nodes c.in_ok-case.case c.in_ok-document.document answers (rw (c.in_ok-case.ensures.schema, c.in_ok-case.ensures.queries) made_asked)

pub summary_of-requires-clause-averages : goal.summary_of-requires-clause-averages
summary_of-requires-clause-averages c =
    let answers = answers_case usual_nodes c.in_ok-case.case c.in_ok-document.document c.in_ok-document.ensures.answers c.in_ok-document.ensures.written c.in_ok-document.ensures.formed in
    ends_can_be_printed usual_nodes c.in_ok-case.case c.in_ok-document.document answers

pub returns : goal.returns
returns c =
    let same = case_is c.args.command.now.seed c.args.command.now.size c.in_ok-case.case c.in_ok-case.ensures.schema c.in_ok-case.ensures.rows c.in_ok-case.ensures.constraints c.in_ok-case.ensures.queries in
    let here = answers_case usual_nodes c.in_ok-case.case c.in_ok-document.document c.in_ok-document.ensures.answers c.in_ok-document.ensures.written c.in_ok-document.ensures.formed in
    let answers = subst (λ (case : Case). AnswersCase usual_nodes case c.in_ok-document.document) same here in
    IfOk-weaker c.summary_of.result
    (λ text. text.items ≡ summary_text c.in_ok-case.case.schema (length c.in_ok-case.case.rows) (length c.in_ok-case.case.constraints) c.in_ok-document.document)
    (λ text. SaysSummary (generated_case c.args.command.now.seed c.args.command.now.size) text.items)
    (λ text summed. record {
      document = c.in_ok-document.document;
      answers = answers;
      possible = none_is_impossible c.args.command.now.seed c.args.command.now.size usual_nodes c.in_ok-document.document answers;
      summed = subst (λ (case : Case). text.items ≡ summary_text case.schema (length case.rows) (length case.constraints) c.in_ok-document.document) same summed;
    })
    c.summary_of.ensures
