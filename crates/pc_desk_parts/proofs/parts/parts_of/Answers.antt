use Rattle.pc_desk_parts.proofs.Rooms.{few_counted}
use Rattle.pc_desk_parts.proofs.parts.parts_of.Goals as goal

pub counts_of-requires : goal.counts_of-requires
counts_of-requires c = few_counted c.args.ask.now c.args.reached.now c.requires
