use Rattle.pc_document_lines.proofs.GroupsBack.{group_line}
use Rattle.pc_document_lines.proofs.name_laws.group_lines_are_lines.Goals as goal

pub returns : goal.returns
returns c = group_line
