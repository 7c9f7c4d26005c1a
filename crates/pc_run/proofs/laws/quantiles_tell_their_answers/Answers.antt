use Rattle.pc_run.proofs.MeasuredTexts.{quantiles_tell_answers}
use Rattle.pc_run.proofs.laws.quantiles_tell_their_answers.Goals as goal

pub returns : goal.returns
returns c = quantiles_tell_answers
