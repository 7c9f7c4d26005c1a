use Rattle.std.proofs.Common.{arith}
use Rattle.pc_model.specs.Regions.{whole_region}
use Rattle.pc_cells_tree.proofs.Knowing.{nothing_of_each}
use Rattle.pc_cells_tree.proofs.Ends.{start_comparable, start_tree, cut_on}
use Rattle.pc_cells_tree.proofs.refine.refined.Goals as goal

pub settled-requires-clause-comparable : goal.settled-requires-clause-comparable
settled-requires-clause-comparable c =
    start_comparable c.args.schema.now c.args.constraints.now c.args.chosen.now c.args.nodes.now c.in_ok-boxes.boxes c.requires.asked.well_formed c.requires.asked.servable c.requires.asked.area c.in_ok-boxes.ensures

pub settled-requires-clause-tree : goal.settled-requires-clause-tree
settled-requires-clause-tree c = rw c.in_ok-copy.ensures (start_tree (whole_region c.args.schema.now) c.args.nodes.now c.in_ok-boxes.boxes c.in_ok-boxes.ensures)

pub returns : goal.returns
returns c =
    let is = rw c.in_ok-copy.ensures at c.in_ok-end.ensures in
    let comparable =
    start_comparable c.args.schema.now c.args.constraints.now c.args.chosen.now c.args.nodes.now c.in_ok-boxes.boxes c.requires.asked.well_formed c.requires.asked.servable c.requires.asked.area c.in_ok-boxes.ensures in
    rw c.len.ensures (cut_on c.args.schema.now c.args.constraints.now c.args.chosen.now (record { nodes = c.args.nodes.now; boxes = c.in_ok-boxes.boxes }) c.in_ok-end.end c.in_ok-boxes.ensures is comparable)

pub settled-requires-clause-known : goal.settled-requires-clause-known
settled-requires-clause-known c =
    nothing_of_each c.args.constraints.now c.in_ok-boxes.boxes c.in_ok-known.known (omega (arith, c.in_ok-known.ensures.long, c.in_ok-boxes.ensures.long)) c.in_ok-known.ensures.nothing
