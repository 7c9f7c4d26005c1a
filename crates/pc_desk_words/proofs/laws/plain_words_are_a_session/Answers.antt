use Rattle.pc_desk_words.proofs.Verbs.{session_read}
use Rattle.pc_desk_words.proofs.laws.plain_words_are_a_session.Goals as goal

pub returns : goal.returns
returns c = session_read
