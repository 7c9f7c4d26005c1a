use Rattle.std.proofs.Common.{◌≡◌, Ok, length, sym}
use Rattle.pc_script.specs.Script.{known_after, line_at}
use Rattle.pc_script.proofs.OneMore.{one_more}
use Rattle.pc_script.proofs.ScriptLines.{line_read}
use Rattle.pc_script.proofs.script.with_line.Goals as goal

pub returns-clause-reads : goal.returns-clause-reads
returns-clause-reads c =
    let schema = c.args.schema.now in
    let before = c.args.before in
    let line = c.in_ok-line.line in
    let read : line_at schema (length before.lines) before.known c.args.text.now ≡ Ok line = rw c.len.ensures at c.in_ok-line.ensures.answers in
    rw c.in_ok-with_one_more.ensures
    (λ start reading.
    let found : line_at schema (length before.lines) (known_after start before.lines) c.args.text.now ≡ Ok line = rw reading.known at read in
    (line_read schema start before.lines c.args.text.now line (sym c.if-is_passed_over.ensures) found, one_more schema start before line c.in_ok-line.ensures.can reading))
