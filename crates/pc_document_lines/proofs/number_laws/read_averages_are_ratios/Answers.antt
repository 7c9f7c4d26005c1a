use Rattle.pc_document_lines.proofs.NumbersInUnits.{read_ratio}
use Rattle.pc_document_lines.proofs.number_laws.read_averages_are_ratios.Goals as goal

pub returns : goal.returns
returns c = read_ratio
