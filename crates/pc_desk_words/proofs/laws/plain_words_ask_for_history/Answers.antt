use Rattle.pc_desk_words.proofs.Verbs.{history_read}
use Rattle.pc_desk_words.proofs.laws.plain_words_ask_for_history.Goals as goal

pub returns : goal.returns
returns c = history_read
