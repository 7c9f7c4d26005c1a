use Rattle.pc_desk_short.proofs.Clashing.{clashes_contrary}
use Rattle.pc_desk_short.proofs.laws.clashes_are_impossible.Goals as goal

pub returns : goal.returns
returns c = λ schema constraints nodes clash is tells. clashes_contrary schema constraints nodes clash is tells
