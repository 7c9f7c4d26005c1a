use Rattle.pc_document_lines.proofs.QueriesBack.{query_line}
use Rattle.pc_document_lines.proofs.name_laws.query_lines_are_lines.Goals as goal

pub returns : goal.returns
returns c = query_line
