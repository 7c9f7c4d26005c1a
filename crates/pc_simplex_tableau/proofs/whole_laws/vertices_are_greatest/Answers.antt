use Rattle.pc_simplex_tableau.proofs.WholeEnds.{vertex_of}
use Rattle.pc_simplex_tableau.proofs.whole_laws.vertices_are_greatest.Goals as goal

pub returns : goal.returns
returns c = vertex_of
