use Rattle.std.proofs.Common.{◌∙◌}
use Rattle.pc_desk_answers.proofs.Shown.{answers_held, shown_held}
use Rattle.pc_desk_answers.proofs.answers.ask_session.Goals as goal

pub block_entries-requires-clause-answers : goal.block_entries-requires-clause-answers
block_entries-requires-clause-answers c =
    let asked = c.in_ok-document.ensures in
    let was = c.args.session.now in
    let is = c.ask.new.session in
    answers_held c.args.nodes c.args.query.now was.schema is.schema was.rows is.rows was.constraints c.as_slice.result.now c.from_ref.result.now c.in_ok-document.document.blocks c.as_slice-2.result.now asked.schema asked.rows
    (c.as_slice.ensures ∙ asked.constraints) c.from_ref.ensures.value c.as_slice-2.ensures asked.answers

pub returns-clause-shown : goal.returns-clause-shown
returns-clause-shown c =
    let asked = c.in_ok-document.ensures in
    let was = c.args.session.now in
    let is = c.ask.new.session in
    shown_held c.args.nodes c.args.line c.args.query.now was.schema is.schema was.rows is.rows was.constraints is.constraints c.block_entries.result asked.schema asked.rows asked.constraints
    (rw c.as_slice.ensures at c.block_entries.ensures)
