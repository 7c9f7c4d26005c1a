use Rattle.pc_desk_words.proofs.Verbs.{why_read}
use Rattle.pc_desk_words.proofs.laws.plain_words_ask_why.Goals as goal

pub returns : goal.returns
returns c = why_read
