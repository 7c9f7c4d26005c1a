use Rattle.pc_desk_words.proofs.Verbs.{weigh_read}
use Rattle.pc_desk_words.proofs.laws.plain_words_ask_to_weigh.Goals as goal

pub returns : goal.returns
returns c = weigh_read
