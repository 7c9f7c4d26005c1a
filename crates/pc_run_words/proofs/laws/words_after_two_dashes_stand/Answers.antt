use Rattle.pc_run_words.proofs.Readings.{dashes_read}
use Rattle.pc_run_words.proofs.laws.words_after_two_dashes_stand.Goals as goal

pub returns : goal.returns
returns c = dashes_read
