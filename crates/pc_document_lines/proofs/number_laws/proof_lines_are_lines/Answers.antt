use Rattle.pc_document_lines.proofs.ProofLinesBack.{proof_line}
use Rattle.pc_document_lines.proofs.number_laws.proof_lines_are_lines.Goals as goal

pub returns : goal.returns
returns c = proof_line
