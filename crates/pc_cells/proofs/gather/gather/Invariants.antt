use Rattle.std.proofs.Common.{◌≡◌, ◌++◌, length}
use Rattle.std.specs.Vec.Iter.{into_iter_items, into_iter_len}
use Rattle.pc_cells.specs.Gathering.{IsGatheredFrom}
use Rattle.pc_cells.proofs.gather.gather.Given as goal

abbrev pub invariant-loop-leaf : goal.invariant-loop-leaf
invariant-loop-leaf l =
    (l.yielded ++ into_iter_items l.leaf-iterator ≡ into_iter_items l.initial.leaf-iterator)
    × IsGatheredFrom l.yielded l.gathering
    × (into_iter_len l.leaf-iterator ≡ length (into_iter_items l.leaf-iterator))
