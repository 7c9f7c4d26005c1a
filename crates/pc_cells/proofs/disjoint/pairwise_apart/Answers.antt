use Rattle.pc_cells.proofs.Apart.{means_disjoint}
use Rattle.pc_cells.proofs.disjoint.pairwise_apart.Goals as goal

pub returns : goal.returns
returns c = record { disjoint = λ schema servable. means_disjoint schema c.args.constraints.now c.pairs_are_apart.result c.requires.lone c.pairs_are_apart.ensures servable }
