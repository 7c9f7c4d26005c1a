use Rattle.pc_cells.proofs.Decomposed.{are_cells_for}
use Rattle.pc_cells.proofs.shared.Shared.cells.Goals as goal

pub returns-clause-found : goal.returns-clause-found
returns-clause-found c =
    let marked = c.in_ok-nodes.ensures in
    are_cells_for c.args.schema.now c.args.constraints.now c.args.chosen.now c.in_ok-nodes.field-0.nodes c.requires.asked.well_formed marked.settled
    c.in_ok-nodes.field-0.leaves marked.leaves c.in_ok-cells.cells c.in_ok-cells.ensures marked.few
