use Rattle.pc_quantile.proofs.ShownAnswers.{owed_answers_are_shown}
use Rattle.pc_quantile.proofs.laws.owed_answers_are_shown.Goals as goal

pub returns : goal.returns
returns c = owed_answers_are_shown
