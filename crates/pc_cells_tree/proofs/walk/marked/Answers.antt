use Rattle.pc_cells_tree.specs.Walking.{nothing}
use Rattle.pc_cells_tree.proofs.Grown.{settled_tree, all_leaves, same_cuts}
use Rattle.pc_cells_tree.proofs.Walked.{root-visit}
use Rattle.std.proofs.Common.{refl}
use Rattle.pc_cells_tree.proofs.walk.marked.Goals as goal

pub walked-requires-clause-visit : goal.walked-requires-clause-visit
walked-requires-clause-visit c =
    root-visit c.args.schema.now c.args.nodes.now c.args.constraints.now c.args.chosen.now c.in_ok-whole.whole c.requires.asked.well_formed c.requires.asked.servable c.requires.asked.area c.requires.tree c.requires.divided c.in_ok-whole.ensures

pub returns-clause-settled : goal.returns-clause-settled
returns-clause-settled c =
    settled_tree c.args.schema.now c.args.constraints.now c.args.chosen.now c.in_ok-whole.whole nothing c.in_ok-growth.growth c.in_ok-whole.ensures refl refl c.in_ok-growth.ensures.grown

pub returns-clause-leaves : goal.returns-clause-leaves
returns-clause-leaves c =
    all_leaves c.args.schema.now c.args.constraints.now c.args.chosen.now c.in_ok-whole.whole nothing c.in_ok-growth.growth c.in_ok-whole.ensures refl refl c.in_ok-growth.ensures.grown

pub returns-clause-same : goal.returns-clause-same
returns-clause-same c =
    same_cuts c.args.schema.now c.args.constraints.now c.args.chosen.now c.in_ok-whole.whole nothing c.in_ok-growth.growth c.in_ok-whole.ensures refl refl c.in_ok-growth.ensures.grown
    c.args.nodes.now c.in_ok-growth.ensures.same
