use Rattle.pc_desk_sql.proofs.Counts.{foreign_are_told, foreign_are_under_none}
use Rattle.pc_desk_sql.proofs.laws.none_is_dropped.Goals as goal

pub returns-clause-told : goal.returns-clause-told
returns-clause-told c = foreign_are_told

pub returns-clause-apart : goal.returns-clause-apart
returns-clause-apart c = foreign_are_under_none
