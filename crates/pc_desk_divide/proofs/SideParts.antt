-- What two sides of one column have in common is one, and so are the boxes that cells are narrowed to.
use Rattle.std.proofs.Common.{◌≡◌, ℕ, zero, suc, ◌<◌, ◌≤◌, ◌^◌, ◌&&◌, ◌==◌, nat_lt, int_le, int_lt, Bool, true, false, ℤ, ◌≤ℤ◌, List, [], ◌∷◌, All, length, get_or, set, Option, Some, None, if◌then◌else◌, refl, sym, subst, arith, true≢false, ltb-true, lt-ltb}
use Rattle.std.specs.Prelude.{⊤}
use Rattle.std.specs.Cmp.Lexicographic.{pointwise}
use Rattle.std.specs.Int.{int_min, int_max}
use Rattle.std.specs.Int.Bits.{bit_and}
use Rattle.std.specs.List.{cons_option, filter_map}
use Rattle.std.proofs.lemmas.Bool.{and_parts, and_from, eqb-false}
use Rattle.std.proofs.lemmas.Int.{ints, clamps}
use Rattle.std.proofs.lemmas.List.Elements.{All-cons, All-head, All-nil, All-tail}
use Rattle.std.proofs.lemmas.Nat.{and_le_r}
use Rattle.std.proofs.lemmas.Option.{slice_get-get_or}
use Rattle.pc_model.specs.declared.region.Region.{Region}
use Rattle.pc_model.specs.declared.region.Side.{Side}
use Rattle.pc_model.specs.declared.region.Side.TheVariants.{Span, Names}
use Rattle.pc_model.specs.declared.schema.Column.{Column}
use Rattle.pc_model.specs.declared.schema.Kind.{Kind}
use Rattle.pc_model.specs.declared.schema.Kind.TheVariants.{Int, Dec, Cat}
use Rattle.pc_model.specs.declared.schema.Schema.{Schema}
use Rattle.pc_model.specs.Regions.{is_region_of, is_set_in, is_side_of, is_span_in, meet_sides, set_unless_empty, span_unless_empty}
use Rattle.pc_model.proofs.Between.{le_from_test, test_from_le}
use Rattle.pc_box.proofs.Bools.{above_zero}
use Rattle.pc_desk_divide.specs.Cells.{common_if, narrowed, narrowed_boxes, with_side_if}
use Rattle.pc_desk_divide.proofs.Narrowed.{IsPiece, sides_at}

-- ---- sides

abbrev pub IsSideIf : (Side → Bool) → Option Side → Type 0
IsSideIf test None = ⊤
IsSideIf test (Some side) = test side ≡ true

spans_common : (low high a b c d : ℤ) → is_span_in low high (Span a b) ≡ true → is_span_in low high (Span c d) ≡ true →
    IsSideIf (is_span_in low high) (span_unless_empty (int_max a c) (int_min b d))
spans_common low high a b c d first second = by_test (int_lt (int_min b d) (int_max a c)) refl
  where
    by_test : (empty : Bool) → int_lt (int_min b d) (int_max a c) ≡ empty → IsSideIf (is_span_in low high) (if empty then None else Some (Span (int_max a c) (int_min b d)))
    by_test true e = tt
    by_test false e =
        let p = and_parts (int_le low a) (int_le a b && int_le b high) first in
        let q = and_parts (int_le low c) (int_le c d && int_le d high) second in
        let above = le_from_test low a p.0 in
        let below = le_from_test b high (and_parts (int_le a b) (int_le b high) p.1).1 in
        let some : int_max a c ≤ℤ int_min b d = grind (arith, ints, e) in
        and_from (int_le low (int_max a c)) (int_le (int_max a c) (int_min b d) && int_le (int_min b d) high)
        (test_from_le low (int_max a c) (omega (arith, ints, clamps)))
        (and_from (int_le (int_max a c) (int_min b d)) (int_le (int_min b d) high)
        (test_from_le (int_max a c) (int_min b d) some) (test_from_le (int_min b d) high (omega (arith, ints, clamps))))

span_common : (low high : ℤ) (s t : Side) → is_span_in low high s ≡ true → is_span_in low high t ≡ true → IsSideIf (is_span_in low high) (meet_sides s t)
unfolding meet_sides
span_common low high (Span a b) (Span c d) first second = spans_common low high a b c d first second
span_common low high (Span a b) (Names y) first second = absurd (true≢false (sym second))
span_common low high (Names x) t first second = absurd (true≢false (sym first))

sets_common : (count x y : ℕ) → y < 2 ^ count → IsSideIf (is_set_in count) (set_unless_empty (bit_and x y))
sets_common count x y small = by_test (bit_and x y == 0) refl
  where
    by_test : (empty : Bool) → (bit_and x y == 0) ≡ empty → IsSideIf (is_set_in count) (if empty then None else Some (Names (bit_and x y)))
    by_test true e = tt
    by_test false e =
        and_from (nat_lt 0 (bit_and x y)) (nat_lt (bit_and x y) (2 ^ count))
        (lt-ltb 0 (bit_and x y) (above_zero (bit_and x y) (eqb-false (bit_and x y) 0 e)))
        (lt-ltb (bit_and x y) (2 ^ count) (omega (arith, and_le_r x y)))

set_common : (count : ℕ) (s t : Side) → is_set_in count s ≡ true → is_set_in count t ≡ true → IsSideIf (is_set_in count) (meet_sides s t)
unfolding meet_sides
set_common count (Names x) (Names y) first second = sets_common count x y (ltb-true y (2 ^ count) (and_parts (nat_lt 0 y) (nat_lt y (2 ^ count)) second).1)
set_common count (Names x) (Span c d) first second = absurd (true≢false (sym second))
set_common count (Span a b) t first second = absurd (true≢false (sym first))

common_is_side : (kind : Kind) (s t : Side) → is_side_of kind s ≡ true → is_side_of kind t ≡ true → IsSideIf (is_side_of kind) (meet_sides s t)
common_is_side (Int low high) s t first second = span_common low high s t first second
common_is_side (Dec scale low high) s t first second = span_common low high s t first second
common_is_side (Cat names) s t first second = set_common (length names) s t first second

-- ---- boxes

sides_with : (columns : List Column) (sides : List Side) (i : ℕ) (c : Column) (new : Side) → pointwise (λ (column : Column). is_side_of column.kind) columns sides ≡ true → i < length columns →
    is_side_of (get_or columns i c).kind new ≡ true → pointwise (λ (column : Column). is_side_of column.kind) columns (set sides i new) ≡ true
sides_with [] sides i c new h there is = absurd (omega arith)
sides_with (column ∷ columns) [] i c new h there is = absurd (true≢false (sym h))
sides_with (column ∷ columns) (side ∷ sides) zero c new h there is =
    let p = and_parts (is_side_of column.kind side) (pointwise (λ (column : Column). is_side_of column.kind) columns sides) h in
    and_from (is_side_of column.kind new) (pointwise (λ (column : Column). is_side_of column.kind) columns sides) is p.1
sides_with (column ∷ columns) (side ∷ sides) (suc i) c new h there is =
    let p = and_parts (is_side_of column.kind side) (pointwise (λ (column : Column). is_side_of column.kind) columns sides) h in
    and_from (is_side_of column.kind side) (pointwise (λ (column : Column). is_side_of column.kind) columns (set sides i new)) p.0
    (sides_with columns sides i c new p.1 (omega arith) is)

abbrev IsRegionIf : Schema → Option Region → Type 0
IsRegionIf schema None = ⊤
IsRegionIf schema (Some box) = is_region_of schema box ≡ true

module _ (schema : Schema) (column : ℕ) (piece : Side) (is : IsPiece schema column piece) where
  narrowed_region : (box : Region) → is_region_of schema box ≡ true → IsRegionIf schema (narrowed column piece box)
  unfolding is_region_of
  narrowed_region box of_schema =
      let c : Column = record { name = []; kind = Cat [] } in
      let at = sides_at schema.columns box.sides column c (Names 0) of_schema is.there in
      let side = get_or box.sides column (Names 0) in
      subst (λ (found : Option Side). IsRegionIf schema (with_side_if box column (common_if found piece))) (sym (slice_get-get_or box.sides column (Names 0) at.0))
      (by_option (meet_sides side piece) (common_is_side (get_or schema.columns column c).kind side piece at.1 (is.side c)))
    where
      by_option : (found : Option Side) → IsSideIf (is_side_of (get_or schema.columns column (record { name = []; kind = Cat [] })).kind) found → IsRegionIf schema (with_side_if box column found)
      by_option None says = tt
      by_option (Some m) says = sides_with schema.columns box.sides column (record { name = []; kind = Cat [] }) m of_schema is.there says

  all_with : (found : Option Region) (rest : List Region) → IsRegionIf schema found → All (λ (box : Region). is_region_of schema box ≡ true) rest →
      All (λ (box : Region). is_region_of schema box ≡ true) (cons_option found rest)
  all_with None rest first others = others
  all_with (Some box) rest first others = All-cons (λ (b : Region). is_region_of schema b ≡ true) box rest first others

  pub narrowed_regions : (boxes : List Region) → All (λ (box : Region). is_region_of schema box ≡ true) boxes → All (λ (box : Region). is_region_of schema box ≡ true) (narrowed_boxes column piece boxes)
  unfolding narrowed_boxes
  narrowed_regions [] of_schema = All-nil (λ (box : Region). is_region_of schema box ≡ true)
  narrowed_regions (box ∷ boxes) of_schema =
      all_with (narrowed column piece box) (filter_map (narrowed column piece) boxes)
      (narrowed_region box (All-head (λ (b : Region). is_region_of schema b ≡ true) box boxes of_schema))
      (narrowed_regions boxes (All-tail (λ (b : Region). is_region_of schema b ≡ true) box boxes of_schema))

few_with : (found : Option Region) (rest : List Region) (n : ℕ) → length rest ≤ n → length (cons_option found rest) ≤ suc n
few_with None rest n few = omega arith
few_with (Some box) rest n few = omega arith

-- no more boxes than before
pub narrowed_few : (column : ℕ) (piece : Side) (boxes : List Region) → length (narrowed_boxes column piece boxes) ≤ length boxes
unfolding narrowed_boxes
narrowed_few column piece [] = omega arith
narrowed_few column piece (box ∷ boxes) = few_with (narrowed column piece box) (filter_map (narrowed column piece) boxes) (length boxes) (narrowed_few column piece boxes)
