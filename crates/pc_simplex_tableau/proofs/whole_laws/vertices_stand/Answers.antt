use Rattle.pc_simplex_tableau.proofs.WholeEnds.{vertex_stands}
use Rattle.pc_simplex_tableau.proofs.whole_laws.vertices_stand.Goals as goal

pub returns : goal.returns
returns c = vertex_stands
