-- What is written of areas and of predicates stands for them.
use Rattle.std.proofs.Common.{◌≡◌, ℕ, ◌≤◌, ◌++◌, true, false, List, [], ◌∷◌, length, map, nat_le, refl, ap, sym, ◌∙◌, inl, inr, arith, Ok, append-nil, append_assoc}
use Rattle.std.specs.Cmp.Lexicographic.{pointwise}
use Rattle.std.proofs.lemmas.Bool.{and_parts, cases_Bool, false≢true, lt-leb}
use Rattle.std.proofs.lemmas.List.{length-map}
use Rattle.std.proofs.lemmas.List.Elements.{All-head, All-tail}
use Rattle.pc_model.specs.declared.schema.Column.{Column}
use Rattle.pc_model.specs.declared.schema.Schema.{Schema}
use Rattle.pc_model.specs.declared.region.Side.{Side}
use Rattle.pc_model.specs.declared.region.Region.{Region}
use Rattle.pc_model.specs.declared.area.Area.{Area}
use Rattle.pc_model.specs.declared.constraint.When.{When}
use Rattle.pc_model.specs.declared.constraint.When.TheVariants.{Boxes, Outside}
use Rattle.pc_model.specs.Accepted.{IsNameFor}
use Rattle.pc_model.specs.Boxes.{IsAreaOf, IsWhenOf, box_limit}
use Rattle.pc_model.specs.Regions.{is_region_of, whole_region, whole_side}
use Rattle.pc_model.specs.WellFormed.{IsWellFormed}
use Rattle.pc_lang.specs.Areas.{area, area_of, regions_from}
use Rattle.pc_lang.specs.Canonical.{are_whole, chosen_for, head_for, is_whole, part_for, same_side, ways_for}
use Rattle.pc_lang.specs.Meaning.{chosen_of, name_of, when_of}
use Rattle.pc_lang.proofs.AreasOfParts.{AreRegions}
use Rattle.pc_lang.proofs.RegionsAgain.{region_again, side_of_test, whole_of}

regions_again : (schema : Schema) (before boxes : List Region) → IsWellFormed schema → AreRegions schema boxes → regions_from schema before (map (part_for schema) boxes) ≡ Ok (before ++ boxes)
unfolding regions_from
regions_again schema before [] is are = rw append-nil refl
regions_again schema before (box ∷ rest) is are =
    let here = All-head (λ (b : Region). is_region_of schema b ≡ true) box rest are in
    let later = All-tail (λ (b : Region). is_region_of schema b ≡ true) box rest are in
    rw (region_again schema box is here) (regions_again schema (before ++ box ∷ []) rest is later ∙ rw (append_assoc before (box ∷ []) rest) refl)

boxes_again : (schema : Schema) (boxes : List Region) → IsWellFormed schema → 1 ≤ length boxes → length boxes ≤ box_limit → AreRegions schema boxes → area_of schema (ways_for schema boxes) ≡ Ok (record { boxes = boxes })
unfolding area_of ways_for
boxes_again schema [] is some few are = absurd (omega arith)
boxes_again schema (first ∷ others) is some few are =
    let size = length-map others (part_for schema) in
    let room : nat_le box_limit (length (map (part_for schema) others)) ≡ false = lt-leb box_limit (length (map (part_for schema) others)) (omega (arith, few, size)) in
    rw (room, regions_again schema [] (first ∷ others) is are) refl

pub area_again : (schema : Schema) (a : Area) → IsWellFormed schema → IsAreaOf schema a → area_of schema (ways_for schema a.boxes) ≡ Ok a
area_again schema a is of = boxes_again schema a.boxes is of.some of.few of.each

-- Predicates.

pub when_again : (schema : Schema) (name : List ℕ) (when : When) → IsWellFormed schema → IsWhenOf schema when → when_of schema (head_for schema name when) ≡ Ok when
unfolding when_of head_for
when_again schema name (Boxes a) is of = rw (area_again schema a is of) refl
when_again schema name Outside is of = refl

pub head_named : (schema : Schema) (name : List ℕ) (when : When) → IsNameFor when name → name_of (head_for schema name when) ≡ name
unfolding head_for
head_named schema name (Boxes a) named = refl
head_named schema name Outside named = sym named

-- Areas of queries.

whole_sides : (columns : List Column) (sides : List Side) → pointwise (λ (column : Column) side. same_side side (whole_side column.kind)) columns sides ≡ true → sides ≡ map whole_of columns
whole_sides [] [] e = refl
whole_sides [] (side ∷ sides) e = absurd (false≢true e)
whole_sides (column ∷ columns) [] e = absurd (false≢true e)
whole_sides (column ∷ columns) (side ∷ sides) e =
    let p = and_parts (same_side side (whole_of column)) (pointwise (λ (c : Column) s. same_side s (whole_side c.kind)) columns sides) e in
    rw (side_of_test side (whole_of column) p.0, whole_sides columns sides p.1) refl

whole_box : (schema : Schema) (box : Region) → is_whole schema box ≡ true → box ≡ whole_region schema
unfolding is_whole
whole_box schema box e = ap (λ (sides : List Side). record { sides = sides }) (whole_sides schema.columns box.sides e)

whole_boxes : (schema : Schema) (boxes : List Region) → are_whole schema boxes ≡ true → whole_region schema ∷ [] ≡ boxes
whole_boxes schema [] e = absurd (false≢true e)
whole_boxes schema (first ∷ []) e = ap (λ (box : Region). box ∷ []) (sym (whole_box schema first e))
whole_boxes schema (first ∷ second ∷ others) e = absurd (false≢true e)

-- no area is left out but that of the whole domain
pub chosen_again : (schema : Schema) (a : Area) → IsWellFormed schema → IsAreaOf schema a → chosen_of schema (chosen_for schema a) ≡ Ok a
chosen_again schema a is of =
    elim (cases_Bool (are_whole schema a.boxes)) [
      | inl whole ↦ rw whole (ap area (whole_boxes schema a.boxes whole))
      | inr part ↦ rw part (area_again schema a is of)
    ]
