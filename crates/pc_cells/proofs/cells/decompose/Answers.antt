use Rattle.pc_cells.proofs.Decomposed.{are_cells_for}
use Rattle.pc_cells.proofs.cells.decompose.Goals as goal

pub returns : goal.returns
returns c =
    let grown = c.in_ok-nodes.ensures in
    record {
      found = are_cells_for c.args.schema.now c.args.constraints.now c.args.chosen.now c.in_ok-nodes.field-0.nodes c.requires.asked.well_formed grown.settled
          c.in_ok-nodes.field-0.leaves grown.leaves c.in_ok-cells.cells c.in_ok-cells.ensures grown.few;
      needed = grown.needed;
    }
