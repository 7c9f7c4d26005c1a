use Rattle.pc_document_lines.proofs.ValuesBack.{read_end}
use Rattle.pc_document_lines.proofs.end_lines.read_end_line.Goals as goal

pub if_spelled-requires-clause-reduced : goal.if_spelled-requires-clause-reduced
if_spelled-requires-clause-reduced c =
    let likely = rw c.in-Some.is at c.in_ok-end.ensures in
    read_end c.args.schema.now c.args.query.now c.args.line.now c.in-Some.end likely
