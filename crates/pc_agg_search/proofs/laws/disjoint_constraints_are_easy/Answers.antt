use Rattle.pc_agg_search.proofs.NestedCells.{nested-from_disjoint}
use Rattle.pc_agg_search.proofs.laws.disjoint_constraints_are_easy.Goals as goal

pub returns : goal.returns
returns c = nested-from_disjoint
