use Rattle.std.proofs.Common.{subst}
use Rattle.pc_program_bound.specs.Allocation.{cells_of}
use Rattle.pc_nested.specs.Filled.{HasNoRoom}
use Rattle.pc_nested.proofs.Giving.{filled_none}
use Rattle.pc_nested.proofs.filling.fill.Goals as goal

pub returns-in_default : goal.returns-in_default
returns-in_default c =
    let filling = c.loop-filling.filling in
    let none = subst (λ counts. HasNoRoom c.args.p.now c.args.place counts c.args.highs.now (cells_of c.args.p.now)) c.as_slice.ensures c.in_default.ensures in
    filled_none c.args.p.now c.args.place c.args.counts c.args.highs.now filling.counts filling.price filling.left c.args.target none
    c.requires.enough c.loop-filling.invariant.filling

pub loop-filling-preserved : goal.loop-filling-preserved
loop-filling-preserved c = record {
  filling = c.fill_cell-filling.ensures.filling c.args.counts c.args.target c.loop-filling.invariant.filling;
  sized = c.fill_cell-filling.ensures.sized;
}
