use Rattle.pc_rows.specs.Groups.{AreSlotsBelow}
use Rattle.pc_rows.proofs.groups.slots_of.Given as goal

abbrev pub invariant-loop-index : goal.invariant-loop-index
invariant-loop-index l = AreSlotsBelow l.names l.index l.slots.items
