use Rattle.std.proofs.Common.{◌≡◌, true, to_z, of_z, w64, sym, subst, arith}
use Rattle.std.proofs.lemmas.Int.{ints}
use Rattle.pc_model.specs.declared.region.Side.{Side}
use Rattle.pc_model.specs.declared.region.Side.TheVariants.{Span}
use Rattle.pc_box.specs.Boxes.{are_like}
use Rattle.pc_cells.specs.Lowest.{IsLeastOf}
use Rattle.pc_cells.proofs.Lowest.{least_span, least_place}
use Rattle.pc_cells.proofs.pick.number_of.Goals as goal

pub returns-in-Span : goal.returns-in-Span
returns-in-Span c =
    let low = c.in-Span.low in
    let same : to_z w64 (of_z w64 low) ≡ low = omega (arith, ints) in
    let like : are_like (Span low c.in-Span.high) (Span low c.in-Span.high) ≡ true = subst (λ (side : Side). are_like side side ≡ true) c.in-Span.is c.requires in
    rw same (subst (λ (side : Side). IsLeastOf side low) (sym c.in-Span.is) (least_span low c.in-Span.high like))

pub returns-in-Names : goal.returns-in-Names
returns-in-Names c =
    let n = c.lowest_place.result in
    let same : to_z w64 (of_z w64 n) ≡ n = omega (arith, ints) in
    rw same (subst (λ (side : Side). IsLeastOf side n) (sym c.in-Names.is) (least_place c.in-Names.bits n c.lowest_place.ensures.place c.lowest_place.ensures.lowest))
