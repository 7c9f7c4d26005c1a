use Rattle.pc_document_lines.proofs.ValuesBack.{end_line}
use Rattle.pc_document_lines.proofs.number_laws.end_lines_are_lines.Goals as goal

pub returns : goal.returns
returns c = end_line
