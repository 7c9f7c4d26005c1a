use Rattle.pc_run.proofs.Reported.{reports_tell_answers}
use Rattle.pc_run.proofs.laws.reports_tell_their_answers.Goals as goal

pub returns : goal.returns
returns c = reports_tell_answers
