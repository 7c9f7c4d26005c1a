use Rattle.pc_desk_words.proofs.Verbs.{draft_read}
use Rattle.pc_desk_words.proofs.laws.plain_words_ask_for_a_draft.Goals as goal

pub returns : goal.returns
returns c = draft_read
