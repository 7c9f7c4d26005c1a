use Rattle.pc_rows.proofs.Grouping.{one_slot}
use Rattle.pc_rows.proofs.groups.slots_of.Goals as goal

pub loop-index-preserved : goal.loop-index-preserved
loop-index-preserved c = one_slot c.args.names.now c.loop-index.index c.loop-index.slots.items (c.requires.places c.loop-index.index 0 c.loop-index-test.true) c.loop-index.invariant
