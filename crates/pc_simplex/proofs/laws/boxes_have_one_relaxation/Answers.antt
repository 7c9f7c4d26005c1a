use Rattle.pc_simplex.proofs.Vertices.{one_relaxation}
use Rattle.pc_simplex.proofs.laws.boxes_have_one_relaxation.Goals as goal

pub returns : goal.returns
returns c = λ p floors caps r s program box. one_relaxation p floors caps program box r s
