use Rattle.std.proofs.Common.{◌≡◌, pos, to_z, of_z, w64, arith}
use Rattle.std.proofs.lemmas.Int.{ints}
use Rattle.pc_model.specs.declared.region.Side.TheVariants.{Span}
use Rattle.pc_cells.proofs.Lowest.{least_more}
use Rattle.pc_cells.proofs.pick.numbers_of.Goals as goal

pub loop-side-preserved : goal.loop-side-preserved
loop-side-preserved c =
    let same : to_z w64 (of_z w64 c.number_of.result) ≡ c.number_of.result = omega (arith, ints) in
    rw (c.in_ok-push.ensures.items, same)
    (least_more c.args.sides.now c.loop-side.cells.items c.loop-side.side-index (Span (pos 0) (pos 0)) c.number_of.result c.loop-side-test.true c.loop-side.invariant c.number_of.ensures)
