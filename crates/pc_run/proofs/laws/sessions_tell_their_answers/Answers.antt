use Rattle.pc_run.proofs.Sessions.{sessions_tell}
use Rattle.pc_run.proofs.laws.sessions_tell_their_answers.Goals as goal

pub returns : goal.returns
returns c = sessions_tell
