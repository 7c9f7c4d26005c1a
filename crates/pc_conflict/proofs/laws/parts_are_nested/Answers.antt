use Rattle.pc_conflict.proofs.Parts.{nested_still}
use Rattle.pc_conflict.proofs.laws.parts_are_nested.Goals as goal

pub returns : goal.returns
returns c = nested_still
