use Rattle.pc_document_lines.proofs.NodesBack.{node_line}
use Rattle.pc_document_lines.proofs.number_laws.node_lines_are_lines.Goals as goal

pub returns : goal.returns
returns c = node_line
