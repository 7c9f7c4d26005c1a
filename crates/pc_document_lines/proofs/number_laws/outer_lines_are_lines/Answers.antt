use Rattle.pc_document_lines.proofs.ValuesBack.{outer_line}
use Rattle.pc_document_lines.proofs.number_laws.outer_lines_are_lines.Goals as goal

pub returns : goal.returns
returns c = outer_line
