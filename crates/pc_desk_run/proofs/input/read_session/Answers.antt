use Rattle.std.proofs.Common.{[]}
use Rattle.pc_desk_run.proofs.input.read_session.Goals as goal

pub returns-clause-kept : goal.returns-clause-kept
returns-clause-kept g c = c.read_scripted_keeping.ensures.kept []
