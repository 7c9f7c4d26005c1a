use Rattle.pc_desk_try.proofs.Kept.{kept_tables_are_possible}
use Rattle.pc_desk_try.proofs.laws.kept_tables_are_possible.Goals as goal

pub returns : goal.returns
returns c = kept_tables_are_possible
