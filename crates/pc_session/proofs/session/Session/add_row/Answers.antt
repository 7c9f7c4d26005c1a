use Rattle.pc_session.proofs.Holding.{all_wide}
use Rattle.pc_session.proofs.session.Session.add_row.Goals as goal

pub push-requires-clause-alike : goal.push-requires-clause-alike
push-requires-clause-alike c = let self = c.args.self.now in all_wide self.schema self.rows c.args.row c.requires.session.seen c.requires.allowed
