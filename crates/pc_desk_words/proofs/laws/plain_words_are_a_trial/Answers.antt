use Rattle.pc_desk_words.proofs.Verbs.{trial_read}
use Rattle.pc_desk_words.proofs.laws.plain_words_are_a_trial.Goals as goal

pub returns : goal.returns
returns c = trial_read
