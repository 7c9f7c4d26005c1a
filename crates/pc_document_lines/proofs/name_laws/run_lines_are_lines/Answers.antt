use Rattle.pc_document_lines.proofs.RunsBack.{run_line}
use Rattle.pc_document_lines.proofs.name_laws.run_lines_are_lines.Goals as goal

pub returns : goal.returns
returns c = run_line
