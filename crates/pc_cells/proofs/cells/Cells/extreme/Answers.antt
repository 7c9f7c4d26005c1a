use Rattle.std.proofs.Common.{true, false, List, subst}
use Rattle.pc_model.specs.declared.region.Region.{Region}
use Rattle.pc_cells.specs.Ends.{IsFirstAt}
use Rattle.pc_cells.proofs.Spans.{cell_above, cell_below, cell_holds_low, cell_holds_high}
use Rattle.pc_cells.proofs.cells.Cells.extreme.Goals as goal

pub returns-clause-above_low : goal.returns-clause-above_low
returns-clause-above_low c = cell_above c.args.self.now.cells c.args.cell c.requires.filled c.args.column c.requires.numbers c.leaves.result.now c.leaves.ensures c.ends_of.result.low c.ends_of.ensures.low

pub returns-clause-below_high : goal.returns-clause-below_high
returns-clause-below_high c = cell_below c.args.self.now.cells c.args.cell c.requires.filled c.args.column c.requires.numbers c.leaves.result.now c.leaves.ensures c.ends_of.result.high c.ends_of.ensures.high

pub returns-clause-low_leaf : goal.returns-clause-low_leaf
returns-clause-low_leaf c =
    cell_holds_low c.args.self.now.cells c.args.cell c.requires.filled c.args.column c.requires.numbers c.leaves.result.now c.leaves.ensures c.ends_of.result.low c.ends_of.result.low_leaf
    c.ends_of.ensures.low_there c.ends_of.ensures.low_held

pub returns-clause-high_leaf : goal.returns-clause-high_leaf
returns-clause-high_leaf c =
    cell_holds_high c.args.self.now.cells c.args.cell c.requires.filled c.args.column c.requires.numbers c.leaves.result.now c.leaves.ensures c.ends_of.result.high c.ends_of.result.high_leaf
    c.ends_of.ensures.high_there c.ends_of.ensures.high_held

pub returns-clause-low_first : goal.returns-clause-low_first
returns-clause-low_first c = subst (λ (leaves : List Region). IsFirstAt true c.args.column leaves c.ends_of.result.low_leaf c.ends_of.result.low) c.leaves.ensures c.ends_of.ensures.low_first

pub returns-clause-high_first : goal.returns-clause-high_first
returns-clause-high_first c = subst (λ (leaves : List Region). IsFirstAt false c.args.column leaves c.ends_of.result.high_leaf c.ends_of.result.high) c.leaves.ensures c.ends_of.ensures.high_first
