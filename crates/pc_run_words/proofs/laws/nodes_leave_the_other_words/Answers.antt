use Rattle.pc_run_words.proofs.Readings.{apart_read, joined_read}
use Rattle.pc_run_words.proofs.laws.nodes_leave_the_other_words.Goals as goal

pub returns-clause-apart : goal.returns-clause-apart
returns-clause-apart c = apart_read

pub returns-clause-joined : goal.returns-clause-joined
returns-clause-joined c = joined_read
