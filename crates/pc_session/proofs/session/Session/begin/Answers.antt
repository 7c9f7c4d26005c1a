use Rattle.pc_session.proofs.Holding.{can_be_divided, needed_at_first}
use Rattle.pc_session.proofs.session.Session.begin.Goals as goal

pub refine-requires-clause-asked : goal.refine-requires-clause-asked
refine-requires-clause-asked c =
    can_be_divided c.args.schema c.args.constraints c.as_slice.result.now c.in_ok-whole.whole c.requires.well_formed c.requires.accepted c.as_slice.ensures c.in_ok-whole.ensures

pub returns-clause-needed : goal.returns-clause-needed
returns-clause-needed c =
    needed_at_first c.args.schema c.args.constraints c.as_slice.result.now c.in_ok-whole.whole c.in_ok-tree.tree.nodes c.refine.new.self.nodes c.as_slice.ensures c.in_ok-whole.ensures c.in_ok-tree.ensures.one
    c.in_ok-refine.ensures.cut_on.needed
