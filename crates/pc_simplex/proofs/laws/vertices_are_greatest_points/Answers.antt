use Rattle.pc_simplex.proofs.Vertices.{IsVertex-point}
use Rattle.pc_simplex.proofs.laws.vertices_are_greatest_points.Goals as goal

pub returns : goal.returns
returns c = λ p floors caps point mult program box. IsVertex-point p floors caps program box point mult
