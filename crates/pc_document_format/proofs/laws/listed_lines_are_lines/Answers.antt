use Rattle.std.proofs.Common.{List, ℕ}
use Rattle.pc_document_format.proofs.Spelled.{listed_line}
use Rattle.pc_document_format.proofs.laws.listed_lines_are_lines.Goals as goal

pub returns : goal.returns
returns c = listed_line (λ (text : List ℕ). text)
