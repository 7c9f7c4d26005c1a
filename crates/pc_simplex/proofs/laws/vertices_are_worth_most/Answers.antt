use Rattle.pc_simplex.proofs.Worth.{worth_most}
use Rattle.pc_simplex.proofs.laws.vertices_are_worth_most.Goals as goal

pub returns : goal.returns
returns c = worth_most
