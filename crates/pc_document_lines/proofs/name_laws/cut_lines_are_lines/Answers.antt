use Rattle.pc_document_lines.proofs.CutsBack.{cut_line}
use Rattle.pc_document_lines.proofs.name_laws.cut_lines_are_lines.Goals as goal

pub returns : goal.returns
returns c = cut_line
