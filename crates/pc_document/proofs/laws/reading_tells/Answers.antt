use Rattle.pc_document_lines.proofs.AllLines.{all_lines}
use Rattle.pc_document.proofs.DocumentFormat.{reading_told}
use Rattle.pc_document.proofs.laws.reading_tells.Goals as goal

pub returns : goal.returns
returns c = λ schema bytes well. reading_told schema bytes (all_lines schema well)
