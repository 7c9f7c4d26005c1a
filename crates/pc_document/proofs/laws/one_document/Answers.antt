use Rattle.pc_document_lines.proofs.AllLines.{all_lines}
use Rattle.pc_document.proofs.DocumentFormat.{only_document}
use Rattle.pc_document.proofs.laws.one_document.Goals as goal

pub returns : goal.returns
returns c = λ schema bytes doc other well. only_document schema bytes doc other (all_lines schema well)
