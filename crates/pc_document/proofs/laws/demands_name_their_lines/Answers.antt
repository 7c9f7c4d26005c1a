use Rattle.pc_document_lines.proofs.AllLines.{all_lines}
use Rattle.pc_document.proofs.InPlace.{document_in_place}
use Rattle.pc_document.proofs.laws.demands_name_their_lines.Goals as goal

pub returns : goal.returns
returns c = λ case doc well bytes is. document_in_place case bytes doc (all_lines case.schema well) is
