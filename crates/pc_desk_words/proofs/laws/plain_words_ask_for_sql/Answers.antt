use Rattle.pc_desk_words.proofs.Verbs.{sql_read}
use Rattle.pc_desk_words.proofs.laws.plain_words_ask_for_sql.Goals as goal

pub returns : goal.returns
returns c = sql_read
