use Rattle.pc_document_lines.proofs.NumbersInUnits.{units_again}
use Rattle.pc_document_lines.proofs.number_laws.units_are_taken_back.Goals as goal

pub returns : goal.returns
returns c = units_again
