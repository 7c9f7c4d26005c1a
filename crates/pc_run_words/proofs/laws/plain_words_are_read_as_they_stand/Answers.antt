use Rattle.pc_run_words.proofs.Readings.{plain_read}
use Rattle.pc_run_words.proofs.laws.plain_words_are_read_as_they_stand.Goals as goal

pub returns : goal.returns
returns c = plain_read
