use Rattle.pc_desk_weigh.proofs.Keeping.{all_kept}
use Rattle.pc_desk_weigh.proofs.laws.changed_constraints_are_constraints.Goals as goal

pub returns : goal.returns
returns c = all_kept
