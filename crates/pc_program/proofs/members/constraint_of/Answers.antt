use Rattle.pc_program.proofs.Gathering.{mask_some, bit_inside}
use Rattle.pc_program.proofs.members.constraint_of.Goals as goal

pub lowest_bit-requires : goal.lowest_bit-requires
lowest_bit-requires c = rw c.mask_of.ensures (mask_some c.args.p.now c.args.cell c.requires.one_bits c.requires.there)

pub returns-clause-there : goal.returns-clause-there
returns-clause-there c = bit_inside c.args.p.now c.args.cell c.lowest_bit.result c.requires.one_bits c.requires.there (rw c.mask_of.ensures at c.lowest_bit.ensures)
