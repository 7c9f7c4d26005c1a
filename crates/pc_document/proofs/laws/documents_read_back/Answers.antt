use Rattle.pc_document_lines.proofs.AllLines.{all_lines}
use Rattle.pc_document.proofs.DocumentFormat.{read_again}
use Rattle.pc_document.proofs.laws.documents_read_back.Goals as goal

pub returns : goal.returns
returns c = λ schema bytes doc well. read_again schema bytes doc (all_lines schema well)
