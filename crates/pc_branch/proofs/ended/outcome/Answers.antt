use Rattle.pc_branch.proofs.Outcomes.{outcome_is}
use Rattle.pc_branch.proofs.ended.outcome.Goals as goal

pub returns : goal.returns
returns c =
    rw c.outcome_of.ensures
    (outcome_is c.args.p.now c.args.search c.args.hand c.in_ok-tree.tree c.requires.program c.requires.width
    (record { nodes = rw c.as_slice.ensures at c.in_ok-tree.ensures }) c.requires.at c.requires.spent)
