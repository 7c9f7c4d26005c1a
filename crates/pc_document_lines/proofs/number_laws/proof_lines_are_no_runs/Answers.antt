use Rattle.pc_document_lines.proofs.ProofLinesBack.{proof_begins}
use Rattle.pc_document_lines.proofs.number_laws.proof_lines_are_no_runs.Goals as goal

pub returns : goal.returns
returns c = proof_begins
