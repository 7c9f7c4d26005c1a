use Rattle.pc_cells_tree.proofs.Inner.{keeps_inner}
use Rattle.pc_cells_tree.proofs.OwnCuts.{own_more}
use Rattle.pc_cells.proofs.shared.Shared.refine.Goals as goal

pub returns-clause-inner : goal.returns-clause-inner
returns-clause-inner c =
    let cut_on = rw c.as_slice.ensures at c.in_ok-nodes.ensures in
    keeps_inner c.args.schema.now c.args.constraints.now c.args.chosen.now c.args.self.now.nodes c.in_ok-nodes.field-0.nodes c.requires.tree cut_on.kept

pub returns-clause-own : goal.returns-clause-own
returns-clause-own c =
    let asked = c.requires.asked in
    let cut_on = rw c.as_slice.ensures at c.in_ok-nodes.ensures in
    own_more c.args.schema.now c.args.constraints.now c.args.chosen.now asked.servable asked.area c.args.self.now.nodes c.in_ok-nodes.field-0.nodes c.requires.tree cut_on.tree cut_on.kept cut_on.needed
