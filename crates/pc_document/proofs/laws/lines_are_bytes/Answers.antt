use Rattle.pc_document.proofs.Counting.{lines_counted}
use Rattle.pc_document.proofs.laws.lines_are_bytes.Goals as goal

pub returns : goal.returns
returns c = lines_counted
