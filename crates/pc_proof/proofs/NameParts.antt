-- What a name keeps of an area is an area of the schema, box by box.
use Rattle.std.proofs.Common.{◌≡◌, ℕ, zero, suc, ◌+◌, ◌^◌, ◌<◌, ◌≤◌, ◌==◌, ◌&&◌, ◌||◌, nat_lt, Bool, true, false, cond, pos, List, [], ◌∷◌, ◌++◌, length, map, filter, get_or, take, All, Option, Some, None, refl, sym, ap, ◌∙◌, true≢false, arith, ltb-true, lt-ltb}
use Rattle.std.specs.List.{list_any}
use Rattle.std.specs.Prelude.{slice_set}
use Rattle.std.specs.Cmp.Lexicographic.{pointwise}
use Rattle.std.specs.Int.Bits.{bit_and}
use Rattle.std.proofs.lemmas.Bool.{and_parts, and_from}
use Rattle.std.proofs.lemmas.List.{length-map, map-append, set_past, take_all}
use Rattle.std.proofs.lemmas.List.Elements.{All-filter, All-map, filter_more, filter_passes}
use Rattle.std.proofs.lemmas.Nat.{and_le_l}
use Rattle.std.proofs.lemmas.Nat.Bits.{bit_at_above, bit_at-pow_same}
use Rattle.pc_model.specs.declared.schema.Kind.{Kind}
use Rattle.pc_model.specs.declared.schema.Kind.TheVariants.{Int, Dec, Cat}
use Rattle.pc_model.specs.declared.schema.Column.{Column}
use Rattle.pc_model.specs.declared.schema.Schema.{Schema}
use Rattle.pc_model.specs.declared.region.Side.{Side}
use Rattle.pc_model.specs.declared.region.Side.TheVariants.{Span, Names}
use Rattle.pc_model.specs.declared.region.Region.{Region}
use Rattle.pc_model.specs.declared.area.Area.{Area}
use Rattle.pc_model.specs.declared.tree.Cut.TheVariants.{Among}
use Rattle.pc_model.specs.Boxes.{IsAreaOf}
use Rattle.pc_model.specs.CutTrees.{first_part, first_side, side_at}
use Rattle.pc_model.specs.Membership.{holds}
use Rattle.pc_model.specs.Places.{has_bit, is_place_of}
use Rattle.pc_model.specs.Regions.{is_side_of, is_region_of}
use Rattle.pc_model.proofs.SharedPlaces.{shared_place}
use Rattle.pc_proof.specs.Setting.{allows_name, boxes_for, narrowed, some_allows}
use Rattle.pc_proof.specs.Unbroken.{AllowsName}

-- without a side for the column the part is the whole
pub no_side : (chosen : Region) (column place : ℕ) → length chosen.sides ≤ column → first_part chosen (Among column (2 ^ place)) ≡ chosen
no_side chosen column place past = ap (λ (sides : List Side). record { sides = sides }) (set_past chosen.sides column (first_side (Among column (2 ^ place)) (side_at chosen column)) past)

some_bit : (bits place : ℕ) → has_bit bits place ≡ true → 0 < bits
some_bit zero place h = let none : has_bit 0 place ≡ (0 == 1) = ap (λ bit. bit == 1) (bit_at_above 0 0 place (omega arith) (omega arith)) in absurd (true≢false (sym h ∙ none))
some_bit (suc bits) place h = omega arith

part_of_side : (kind : Kind) (side : Side) (column place : ℕ) → holds side (pos place) ≡ true → is_side_of kind side ≡ true → is_side_of kind (first_side (Among column (2 ^ place)) side) ≡ true
unfolding holds first_side
part_of_side (Int low high) (Span from to) column place held h = h
part_of_side (Int low high) (Names bits) column place held h = absurd (true≢false (sym h))
part_of_side (Dec scale low high) (Span from to) column place held h = h
part_of_side (Dec scale low high) (Names bits) column place held h = absurd (true≢false (sym h))
part_of_side (Cat names) (Span from to) column place held h = absurd (true≢false (sym h))
part_of_side (Cat names) (Names bits) column place held h =
    let parts = and_parts (nat_lt 0 bits) (nat_lt bits (2 ^ length names)) h in
    let this : has_bit (2 ^ place) place ≡ true = rw (bit_at-pow_same place) refl in
    let both : (is_place_of bits (pos place) && is_place_of (2 ^ place) (pos place)) ≡ true = and_from (is_place_of bits (pos place)) (is_place_of (2 ^ place) (pos place)) held this in
    let some = some_bit (bit_and bits (2 ^ place)) place (shared_place bits (2 ^ place) (pos place) ∙ both) in
    let few = ltb-true bits (2 ^ length names) parts.1 in
    let less = and_le_l bits (2 ^ place) in
    and_from (nat_lt 0 (bit_and bits (2 ^ place))) (nat_lt (bit_and bits (2 ^ place)) (2 ^ length names)) (lt-ltb 0 (bit_and bits (2 ^ place)) some) (lt-ltb (bit_and bits (2 ^ place)) (2 ^ length names) (omega (arith, few, less)))

sides_with : (columns : List Column) (sides : List Side) (column : ℕ) (side : Side) → ((kind : Kind) → is_side_of kind (get_or sides column (Names 0)) ≡ true → is_side_of kind side ≡ true) →
    pointwise (λ (c : Column). is_side_of c.kind) columns sides ≡ true → pointwise (λ (c : Column). is_side_of c.kind) columns (slice_set sides column side) ≡ true
sides_with [] [] column side fits h = h
sides_with [] (s ∷ sides) column side fits h = absurd (true≢false (sym h))
sides_with (c ∷ columns) [] column side fits h = h
sides_with (c ∷ columns) (s ∷ sides) zero side fits h =
    let parts = and_parts (is_side_of c.kind s) (pointwise (λ (x : Column). is_side_of x.kind) columns sides) h in
    and_from (is_side_of c.kind side) (pointwise (λ (x : Column). is_side_of x.kind) columns sides) (fits c.kind parts.0) parts.1
sides_with (c ∷ columns) (s ∷ sides) (suc column) side fits h =
    let parts = and_parts (is_side_of c.kind s) (pointwise (λ (x : Column). is_side_of x.kind) columns sides) h in
    and_from (is_side_of c.kind s) (pointwise (λ (x : Column). is_side_of x.kind) columns (slice_set sides column side)) parts.0 (sides_with columns sides column side fits parts.1)

part_is_region : (schema : Schema) (box : Region) (column place : ℕ) → allows_name column place box ≡ true → is_region_of schema box ≡ true → is_region_of schema (first_part box (Among column (2 ^ place))) ≡ true
unfolding is_region_of
part_is_region schema box column place held h =
    sides_with schema.columns box.sides column (first_side (Among column (2 ^ place)) (side_at box column)) (λ kind fits. part_of_side kind (side_at box column) column place held fits) h

-- ---- the parts of an area

module _ (schema : Schema) (column place : ℕ) where
  abbrev IsIn : Region → Type 0
  IsIn box = is_region_of schema box ≡ true

  abbrev left : List Region → List Region
  left boxes = filter (allows_name column place) boxes

  -- where a box allows the name, some box is left
  some_left : (boxes : List Region) → list_any (allows_name column place) boxes ≡ true → 1 ≤ length (left boxes)
  some_left [] allowed = absurd (true≢false (sym allowed))
  some_left (box ∷ boxes) allowed = by_first (allows_name column place box) allowed (some_left boxes)
    where
      by_first : (first : Bool) → (first || list_any (allows_name column place) boxes) ≡ true → (list_any (allows_name column place) boxes ≡ true → 1 ≤ length (left boxes)) →
          1 ≤ length (cond first (box ∷ left boxes) (left boxes))
      by_first true allowed later = omega arith
      by_first false allowed later = later allowed

  few_left : (boxes : List Region) → length (left boxes) ≤ length boxes
  few_left [] = omega arith
  few_left (box ∷ boxes) = by_first (allows_name column place box) (few_left boxes)
    where
      by_first : (first : Bool) → length (left boxes) ≤ length boxes → length (cond first (box ∷ left boxes) (left boxes)) ≤ length (box ∷ boxes)
      by_first true few = omega (arith, few)
      by_first false few = omega (arith, few)

  parts_are_regions : (boxes : List Region) → All IsIn boxes → All IsIn (boxes_for column place boxes)
  parts_are_regions boxes each =
      All-map IsIn (λ (box : Region). first_part box (Among column (2 ^ place))) (left boxes)
      (λ k d inside.
      part_is_region schema (get_or (left boxes) k d) column place (filter_passes (allows_name column place) boxes k d inside)
      (All-filter (allows_name column place) IsIn boxes each k d inside))

  parts_are_area : (chosen : Area) → some_allows column place chosen ≡ true → IsAreaOf schema chosen → IsAreaOf schema (record { boxes = boxes_for column place chosen.boxes })
  parts_are_area chosen allowed is_area =
      let as_many = length-map (left chosen.boxes) (λ (box : Region). first_part box (Among column (2 ^ place))) in
      record {
        some = omega (arith, as_many, some_left chosen.boxes allowed);
        few = omega (arith, as_many, few_left chosen.boxes, is_area.few);
        each = parts_are_regions chosen.boxes is_area.each;
      }

-- narrowed to a name that it allows, an area is one of the schema still
pub narrowed_is_area : (schema : Schema) (chosen : Area) (group name : Option ℕ) → AllowsName chosen group name → IsAreaOf schema chosen → IsAreaOf schema (narrowed chosen group name)
narrowed_is_area schema chosen (Some column) (Some place) allowed is_area = parts_are_area schema column place chosen allowed is_area
narrowed_is_area schema chosen (Some column) None allowed is_area = is_area
narrowed_is_area schema chosen None name allowed is_area = is_area

-- ---- as far as a loop over the boxes has come

module _ (column place : ℕ) (boxes : List Region) where
  abbrev part : Region → Region
  part box = first_part box (Among column (2 ^ place))

  pub boxes_more : (i : ℕ) (box : Region) → i < length boxes → box ≡ get_or boxes i box →
      boxes_for column place (take (i + 1) boxes) ≡ boxes_for column place (take i boxes) ++ boxes_for column place (box ∷ [])
  boxes_more i box inside is =
      ap (map part) (filter_more (allows_name column place) boxes i box inside)
      ∙ map-append part (filter (allows_name column place) (take i boxes)) (filter (allows_name column place) (get_or boxes i box ∷ []))
      ∙ ap (λ (b : Region). boxes_for column place (take i boxes) ++ boxes_for column place (b ∷ [])) (sym is)

  pub boxes_end : (i : ℕ) → length boxes ≤ i → boxes_for column place (take i boxes) ≡ boxes_for column place boxes
  boxes_end i past = ap (boxes_for column place) (take_all i boxes past)

pub ruleset steps = (boxes_more, boxes_end)
