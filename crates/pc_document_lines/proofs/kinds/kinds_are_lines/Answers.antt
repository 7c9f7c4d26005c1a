use Rattle.pc_document_lines.proofs.AllLines.{all_lines}
use Rattle.pc_document_lines.proofs.kinds.kinds_are_lines.Goals as goal

pub returns : goal.returns
returns c = all_lines
