use Rattle.std.proofs.Common.{length}
use Rattle.pc_conflict.proofs.Determined.{one_kept}
use Rattle.pc_conflict.proofs.laws.cores_are_determined.Goals as goal

pub returns : goal.returns
returns c = λ schema constraints members others without lists a b. one_kept schema constraints (length constraints) members others a.kept b.kept
