use Rattle.pc_simplex.proofs.Vertices.{IsVoid-mult}
use Rattle.pc_simplex.proofs.laws.voids_show_their_boxes.Goals as goal

pub returns : goal.returns
returns c = λ p floors caps mult program box. IsVoid-mult p floors caps program box mult
