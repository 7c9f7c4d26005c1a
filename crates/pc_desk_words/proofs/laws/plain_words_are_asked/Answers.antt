use Rattle.pc_desk_words.proofs.Verbs.{ask_read}
use Rattle.pc_desk_words.proofs.laws.plain_words_are_asked.Goals as goal

pub returns : goal.returns
returns c = ask_read
