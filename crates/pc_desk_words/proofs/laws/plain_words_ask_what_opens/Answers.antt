use Rattle.pc_desk_words.proofs.Verbs.{opens_read}
use Rattle.pc_desk_words.proofs.laws.plain_words_ask_what_opens.Goals as goal

pub returns : goal.returns
returns c = opens_read
