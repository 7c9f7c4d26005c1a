use Rattle.std.proofs.Common.{◌≡◌, ◌+◌, pos, to_z, of_z, w64, arith}
use Rattle.std.proofs.lemmas.Int.{ints}
use Rattle.pc_gen.proofs.DrawnRows.{row_is}
use Rattle.pc_gen.proofs.Stepping.{and_then}
use Rattle.pc_gen.proofs.rows.draw_cells.Goals as goal

pub returns-clause-cells : goal.returns-clause-cells
returns-clause-cells c =
    let branch : to_z w64 (of_z w64 c.from-branch.result) ≡ pos c.draw.result = omega (arith, ints, c.from-branch.ensures, c.draw.ensures.below) in
    let day : to_z w64 (of_z w64 c.from-day.result) ≡ pos (1 + c.draw-2.result) = omega (arith, ints, c.from-day.ensures, c.draw-2.ensures.below) in
    let price : to_z w64 (of_z w64 c.from-price.result) ≡ pos c.draw-3.result = omega (arith, ints, c.from-price.ensures, c.draw-3.ensures.below) in
    row_is _ _ _ _ _ _ _ _ _ c.draw.ensures.drawn c.draw.ensures.state c.draw-2.ensures.drawn c.draw-2.ensures.state c.draw-3.ensures.drawn branch day price

pub returns-clause-state : goal.returns-clause-state
returns-clause-state c =
    and_then 1 2 _ _ _ (and_then 1 1 _ _ _ c.draw.ensures.state c.draw-2.ensures.state) c.draw-3.ensures.state
