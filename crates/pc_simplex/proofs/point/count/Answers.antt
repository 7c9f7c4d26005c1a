use Rattle.std.proofs.Common.{◌≡◌, ◌∙◌, to_z, of_z, arith}
use Rattle.std.specs.Int.{w128}
use Rattle.std.proofs.lemmas.Int.{ints}
use Rattle.pc_simplex.proofs.Standings.{IsPlaced-standing}
use Rattle.pc_simplex.proofs.Parts.{IsPart-placed}
use Rattle.pc_simplex.proofs.point.count.Goals as goal

pub reduced-part-requires-clause-above : goal.reduced-part-requires-clause-above
reduced-part-requires-clause-above c =
    let placed = IsPlaced-standing c.args.p.now c.args.floor.now c.args.cap.now c.args.tableau.now c.requires.inside c.requires.stands c.requires.fits c.args.cell c.requires.cell in
    let under : to_z w128 (of_z w128 c.part_of-over.result.1) ≡ c.part_of-over.result.1 = omega (arith, ints) in
    rw (under, c.part_of-over.ensures.under) placed.above

pub from_end-requires-clause-low : goal.from_end-requires-clause-low
from_end-requires-clause-low c =
    let placed = IsPlaced-standing c.args.p.now c.args.floor.now c.args.cap.now c.args.tableau.now c.requires.inside c.requires.stands c.requires.fits c.args.cell c.requires.cell in
    let over : to_z w128 (of_z w128 c.part_of-over.result.0) ≡ c.part_of-over.result.0 = omega (arith, ints) in
    let under : to_z w128 (of_z w128 c.part_of-over.result.1) ≡ c.part_of-over.result.1 = omega (arith, ints) in
    (IsPart-placed c.args.p.now c.args.floor.now c.args.cap.now c.args.tableau.now c.args.cell c.reduced-part.result placed
    (over ∙ c.part_of-over.ensures.over) (under ∙ c.part_of-over.ensures.under) c.reduced-part.ensures).low

pub from_end-requires-clause-high : goal.from_end-requires-clause-high
from_end-requires-clause-high c =
    let placed = IsPlaced-standing c.args.p.now c.args.floor.now c.args.cap.now c.args.tableau.now c.requires.inside c.requires.stands c.requires.fits c.args.cell c.requires.cell in
    let over : to_z w128 (of_z w128 c.part_of-over.result.0) ≡ c.part_of-over.result.0 = omega (arith, ints) in
    let under : to_z w128 (of_z w128 c.part_of-over.result.1) ≡ c.part_of-over.result.1 = omega (arith, ints) in
    (IsPart-placed c.args.p.now c.args.floor.now c.args.cap.now c.args.tableau.now c.args.cell c.reduced-part.result placed
    (over ∙ c.part_of-over.ensures.over) (under ∙ c.part_of-over.ensures.under) c.reduced-part.ensures).high c.is_turned-turned.result c.end-end.result c.end-end.ensures

pub returns-clause-some : goal.returns-clause-some
returns-clause-some c =
    let placed = IsPlaced-standing c.args.p.now c.args.floor.now c.args.cap.now c.args.tableau.now c.requires.inside c.requires.stands c.requires.fits c.args.cell c.requires.cell in
    let over : to_z w128 (of_z w128 c.part_of-over.result.0) ≡ c.part_of-over.result.0 = omega (arith, ints) in
    let under : to_z w128 (of_z w128 c.part_of-over.result.1) ≡ c.part_of-over.result.1 = omega (arith, ints) in
    (IsPart-placed c.args.p.now c.args.floor.now c.args.cap.now c.args.tableau.now c.args.cell c.reduced-part.result placed
    (over ∙ c.part_of-over.ensures.over) (under ∙ c.part_of-over.ensures.under) c.reduced-part.ensures).some
    c.is_turned-turned.result c.end-end.result c.is_turned-turned.ensures c.end-end.ensures c.from_end.result c.from_end.ensures

pub returns-clause-none : goal.returns-clause-none
returns-clause-none c =
    let placed = IsPlaced-standing c.args.p.now c.args.floor.now c.args.cap.now c.args.tableau.now c.requires.inside c.requires.stands c.requires.fits c.args.cell c.requires.cell in
    let over : to_z w128 (of_z w128 c.part_of-over.result.0) ≡ c.part_of-over.result.0 = omega (arith, ints) in
    let under : to_z w128 (of_z w128 c.part_of-over.result.1) ≡ c.part_of-over.result.1 = omega (arith, ints) in
    (IsPart-placed c.args.p.now c.args.floor.now c.args.cap.now c.args.tableau.now c.args.cell c.reduced-part.result placed
    (over ∙ c.part_of-over.ensures.over) (under ∙ c.part_of-over.ensures.under) c.reduced-part.ensures).none
    c.is_turned-turned.result c.end-end.result c.is_turned-turned.ensures c.end-end.ensures c.from_end.result c.from_end.ensures
