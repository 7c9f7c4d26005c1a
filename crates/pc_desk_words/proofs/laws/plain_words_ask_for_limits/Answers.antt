use Rattle.pc_desk_words.proofs.Verbs.{limit_read}
use Rattle.pc_desk_words.proofs.laws.plain_words_ask_for_limits.Goals as goal

pub returns : goal.returns
returns c = limit_read
