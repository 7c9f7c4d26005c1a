use Rattle.std.proofs.Common.{◌∙◌, unwrap_or}
use Rattle.pc_check_rules.proofs.Gathered.{ends-from_cells}
use Rattle.pc_check_rules.proofs.cells.cells_of.Goals as goal

pub returns-clause-ends : goal.returns-clause-ends
returns-clause-ends c =
    let column = rw c.unwrap_or.ensures at (c.from_vec.ensures ∙ c.in_ok-gathering.ensures.cells) in
    ends-from_cells (unwrap_or c.args.column 0) c.args.leaves.now c.from_vec.result column
