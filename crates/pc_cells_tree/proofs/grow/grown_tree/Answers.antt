use Rattle.std.proofs.Common.{refl}
use Rattle.pc_cells_tree.specs.Walking.{nothing}
use Rattle.pc_cells_tree.proofs.Grown.{settled_tree, all_leaves, needed_cuts, whole_comparable}
use Rattle.pc_cells_tree.proofs.grow.grown_tree.Goals as goal

pub grown_over-requires-clause-comparable : goal.grown_over-requires-clause-comparable
grown_over-requires-clause-comparable c =
    whole_comparable c.args.schema.now c.args.constraints.now c.args.chosen.now c.in_ok-whole.whole c.requires.asked.well_formed c.requires.asked.servable c.requires.asked.area c.in_ok-whole.ensures

pub returns-clause-settled : goal.returns-clause-settled
returns-clause-settled c =
    settled_tree c.args.schema.now c.args.constraints.now c.args.chosen.now c.in_ok-whole.whole nothing c.in_ok-growth.growth c.in_ok-whole.ensures refl refl c.in_ok-growth.ensures.grown

pub returns-clause-leaves : goal.returns-clause-leaves
returns-clause-leaves c =
    all_leaves c.args.schema.now c.args.constraints.now c.args.chosen.now c.in_ok-whole.whole nothing c.in_ok-growth.growth c.in_ok-whole.ensures refl refl c.in_ok-growth.ensures.grown

pub returns-clause-needed : goal.returns-clause-needed
returns-clause-needed c =
    needed_cuts c.args.schema.now c.args.constraints.now c.args.chosen.now c.in_ok-whole.whole nothing c.in_ok-growth.growth c.in_ok-whole.ensures refl refl c.in_ok-growth.ensures.grown
    c.in_ok-growth.ensures.needed
