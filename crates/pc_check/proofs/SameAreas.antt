-- Areas that `==` finds to be the same are the same.
use Rattle.std.proofs.Common.{◌≡◌, Bool, true, List, refl, sym, ap, ap₂, subst, true≢false, int_eq}
use Rattle.std.specs.Bool.{Decides}
use Rattle.std.specs.Cmp.Lexicographic.{pointwise}
use Rattle.std.proofs.lemmas.Bool.{and_parts, and_from, eqb-true, eq-eqb}
use Rattle.std.proofs.lemmas.Bool.Decides.{Decides-int_eq}
use Rattle.std.proofs.lemmas.Slice.Eq.{slice_eq-Decides}
use Rattle.pc_model.specs.declared.area.Area.{Area}
use Rattle.pc_model.specs.declared.region.Region.{Region}
use Rattle.pc_model.specs.declared.region.Side.{Side}
use Rattle.pc_model.specs.declared.region.Side.TheVariants.{Span, Names}
use Rattle.pc_model.specs.contracts.area.AreaPartialEq.TheImpl as area_eq
use Rattle.pc_model.specs.contracts.region.RegionPartialEq.TheImpl as region_eq
use Rattle.pc_model.specs.contracts.region.SidePartialEq.TheImpl as side_eq

same_sides : (a b : Side) → side_eq.eq-value.it a b ≡ true → a ≡ b
same_sides (Span low high) (Span low' high') h =
    let parts = and_parts (int_eq low low') (int_eq high high') h in
    ap₂ (λ x y. Span x y) ((Decides-int_eq low low').0 parts.0) ((Decides-int_eq high high').0 parts.1)
same_sides (Span low high) (Names bits) h = absurd (true≢false (sym h))
same_sides (Names bits) (Span low high) h = absurd (true≢false (sym h))
same_sides (Names bits) (Names bits') h = ap (λ x. Names x) (eqb-true bits bits' h)

side_itself : (a : Side) → side_eq.eq-value.it a a ≡ true
side_itself (Span low high) = and_from (int_eq low low) (int_eq high high) ((Decides-int_eq low low).1 refl) ((Decides-int_eq high high).1 refl)
side_itself (Names bits) = eq-eqb bits bits refl

side_decides : (a b : Side) → Decides (side_eq.eq-value.it a b) (a ≡ b)
side_decides a b = (same_sides a b, λ e. subst (λ (side : Side). side_eq.eq-value.it a side ≡ true) e (side_itself a))

abbrev with_sides : List Side → Region
with_sides sides = record { sides = sides }

abbrev with_boxes : List Region → Area
with_boxes boxes = record { boxes = boxes }

region_decides : (a b : Region) → Decides (region_eq.eq-value.it a b) (a ≡ b)
region_decides a b =
    let sides = slice_eq-Decides side_decides a.sides b.sides (pointwise side_eq.eq-value.it a.sides b.sides) refl in
    (λ h. ap with_sides (sides.0 h), λ e. sides.1 (ap (λ (r : Region). r.sides) e))

pub same_areas : (a b : Area) (r : Bool) → r ≡ area_eq.eq-value.it a b → Decides r (a ≡ b)
same_areas a b r e =
    let boxes = slice_eq-Decides region_decides a.boxes b.boxes r e in
    (λ h. ap with_boxes (boxes.0 h), λ same. boxes.1 (ap (λ (area : Area). area.boxes) same))
