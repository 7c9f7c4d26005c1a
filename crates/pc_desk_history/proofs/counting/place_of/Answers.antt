use Rattle.std.proofs.Common.{◌≡◌, w64, to_z, of_z}
use Rattle.std.proofs.lemmas.Int.{to_z-of_z}
use Rattle.pc_desk_history.proofs.counting.place_of.Goals as goal

pub returns-clause-place : goal.returns-clause-place
returns-clause-place c =
    let same : to_z w64 (of_z w64 c.args.period) ≡ c.args.period = to_z-of_z w64 c.args.period c.ranges.period in
    rw same at c.get_index_of.ensures.index
