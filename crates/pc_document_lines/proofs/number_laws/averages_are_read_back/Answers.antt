use Rattle.pc_document_lines.proofs.NumbersInUnits.{averages_again}
use Rattle.pc_document_lines.proofs.number_laws.averages_are_read_back.Goals as goal

pub returns : goal.returns
returns c = averages_again
