use Rattle.pc_document_lines.proofs.ValuesBack.{end_begins}
use Rattle.pc_document_lines.proofs.number_laws.end_lines_are_no_runs.Goals as goal

pub returns : goal.returns
returns c = end_begins
