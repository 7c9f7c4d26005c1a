use Rattle.std.proofs.Common.{rules, ◌≡◌, ◌∷◌, true, None, sym, ◌∙◌}
use Rattle.pc_document.specs.Places.{lines_at}
use Rattle.pc_document_lines.specs.TokenLines.{read_run, begins_run}
use Rattle.pc_document.proofs.RunSteps.{run_refused}
use Rattle.pc_document.proofs.runs.runs_at.Goals as goal

pub returns-in-None : goal.returns-in-None
returns-in-None c =
    let none : None ≡ read_run c.args.schema.now c.in-Some.line.now = search rules in
    let begins : begins_run c.in-Some.line.now ≡ true = search rules in
    let is : lines_at c.args.bytes.now c.loop-line.at ≡ c.in-Some.line.now ∷ lines_at c.args.bytes.now c.in-Some.next = search rules in
    (c.loop-line.invariant.1.within, sym c.loop-line.invariant.0 ∙ run_refused c.args.schema.now c.loop-line.runs (lines_at c.args.bytes.now c.loop-line.at) c.in-Some.line.now (lines_at c.args.bytes.now c.in-Some.next) is begins none)
