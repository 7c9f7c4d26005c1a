use Rattle.std.proofs.Common.{◌≡◌, ◌++◌, length}
use Rattle.std.specs.Vec.Iter.{into_iter_items, into_iter_len}
use Rattle.pc_desk_weigh.specs.Weighed.{weighed_of}
use Rattle.pc_desk_weigh.proofs.weighing.weighed_of.Given as goal

abbrev pub invariant-loop-entries : goal.invariant-loop-entries
invariant-loop-entries l = record {
  lines : l.yielded ++ into_iter_items l.entries-iterator ≡ l.fn.answers;
  left : into_iter_len l.entries-iterator ≡ length (into_iter_items l.entries-iterator);
  made : l.all ≡ weighed_of l.fn.changes l.yielded;
}
