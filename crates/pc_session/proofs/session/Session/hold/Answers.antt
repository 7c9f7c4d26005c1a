use Rattle.pc_session.proofs.Holding.{can_be_divided}
use Rattle.pc_session.proofs.session.Session.hold.Goals as goal

pub refine-requires-clause-asked : goal.refine-requires-clause-asked
refine-requires-clause-asked c =
    can_be_divided c.args.self.now.schema c.args.constraints c.as_slice.result.now c.in_ok-whole.whole c.requires.session.well_formed c.requires.accepted c.as_slice.ensures c.in_ok-whole.ensures
