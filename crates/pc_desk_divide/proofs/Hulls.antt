-- What the hull of boxes in a column holds.
use Rattle.std.proofs.Common.{◌≡◌, ◌∙◌, ℕ, ◌<◌, ◌^◌, ◌&&◌, ◌||◌, nat_lt, int_le, Bool, true, false, ℤ, pos, negsuc, List, [], ◌∷◌, All, length, get_or, Option, Some, None, refl, sym, ap, subst, arith, true≢false, ltb-true, lt-ltb}
use Rattle.std.specs.Prelude.{fold, bit_or}
use Rattle.std.specs.Int.{int_min, int_max}
use Rattle.std.specs.List.{list_any}
use Rattle.std.proofs.lemmas.Bool.{and_parts, and_from}
use Rattle.std.proofs.lemmas.Bool.Decides.{nat_tests}
use Rattle.std.proofs.lemmas.Int.{ints, clamps}
use Rattle.std.proofs.lemmas.List.Elements.{All-head, All-tail}
use Rattle.std.proofs.lemmas.Nat.{or_lt, le_or_l}
use Rattle.std.proofs.lemmas.Nat.Bits.{bit_at_or, bit_at-lt}
use Rattle.std.proofs.lemmas.Option.{slice_get-get_or}
use Rattle.pc_model.specs.declared.region.Region.{Region}
use Rattle.pc_model.specs.declared.region.Side.{Side}
use Rattle.pc_model.specs.declared.region.Side.TheVariants.{Span, Names}
use Rattle.pc_model.specs.declared.row.Row.{Row}
use Rattle.pc_model.specs.declared.schema.Column.{Column}
use Rattle.pc_model.specs.declared.schema.Kind.{Kind}
use Rattle.pc_model.specs.declared.schema.Kind.TheVariants.{Int, Dec, Cat}
use Rattle.pc_model.specs.declared.schema.Schema.{Schema}
use Rattle.pc_model.specs.Membership.{has, holds}
use Rattle.pc_model.specs.Regions.{is_region_of, is_set_in, is_side_of, is_span_in}
use Rattle.pc_box.specs.Boxes.{are_like}
use Rattle.pc_model.proofs.Between.{le_from_test, test_from_le, between_parts, between_from}
use Rattle.pc_desk_divide.specs.Pieces.{joined, joined_if, joined_to, joined_with}
use Rattle.pc_desk_divide.proofs.Narrowed.{alike_sides, held_at, sides_at}
use Rattle.pc_desk_divide.proofs.SideParts.{IsSideIf}

-- ---- two sides

span_joined : (low high : ℤ) (s t : Side) → is_span_in low high s ≡ true → is_span_in low high t ≡ true → is_span_in low high (joined s t) ≡ true
unfolding joined
span_joined low high (Span a b) (Span c d) first second =
    let p = and_parts (int_le low a) (int_le a b && int_le b high) first in
    let q = and_parts (int_le low c) (int_le c d && int_le d high) second in
    let r = and_parts (int_le a b) (int_le b high) p.1 in
    let s = and_parts (int_le c d) (int_le d high) q.1 in
    let one = le_from_test low a p.0 in
    let two = le_from_test low c q.0 in
    let three = le_from_test a b r.0 in
    let four = le_from_test b high r.1 in
    let five = le_from_test d high s.1 in
    and_from (int_le low (int_min a c)) (int_le (int_min a c) (int_max b d) && int_le (int_max b d) high)
    (test_from_le low (int_min a c) (omega (arith, ints, clamps)))
    (and_from (int_le (int_min a c) (int_max b d)) (int_le (int_max b d) high)
    (test_from_le (int_min a c) (int_max b d) (omega (arith, ints, clamps))) (test_from_le (int_max b d) high (omega (arith, ints, clamps))))
span_joined low high (Span a b) (Names y) first second = absurd (true≢false (sym second))
span_joined low high (Names x) t first second = absurd (true≢false (sym first))

set_joined : (count : ℕ) (s t : Side) → is_set_in count s ≡ true → is_set_in count t ≡ true → is_set_in count (joined s t) ≡ true
unfolding joined
set_joined count (Names x) (Names y) first second =
    let p = and_parts (nat_lt 0 x) (nat_lt x (2 ^ count)) first in
    let q = and_parts (nat_lt 0 y) (nat_lt y (2 ^ count)) second in
    let some = ltb-true 0 x p.0 in
    let more = le_or_l x y in
    and_from (nat_lt 0 (bit_or x y)) (nat_lt (bit_or x y) (2 ^ count))
    (lt-ltb 0 (bit_or x y) (omega arith)) (lt-ltb (bit_or x y) (2 ^ count) (or_lt count x y (ltb-true x (2 ^ count) p.1) (ltb-true y (2 ^ count) q.1)))
set_joined count (Names x) (Span c d) first second = absurd (true≢false (sym second))
set_joined count (Span a b) t first second = absurd (true≢false (sym first))

joined_is : (kind : Kind) (s t : Side) → is_side_of kind s ≡ true → is_side_of kind t ≡ true → is_side_of kind (joined s t) ≡ true
joined_is (Int low high) s t first second = span_joined low high s t first second
joined_is (Dec scale low high) s t first second = span_joined low high s t first second
joined_is (Cat names) s t first second = set_joined (length names) s t first second

-- ---- numbers of either

place_first : (x y : ℕ) (n : ℤ) → holds (Names x) n ≡ true → holds (Names (bit_or x y)) n ≡ true
unfolding holds
place_first x y (pos k) h =
    let both = bit_at_or x y k in
    let small = bit_at-lt (bit_or x y) k in
    grind (arith, nat_tests, both, small, h)
place_first x y (negsuc k) h = h

place_second : (x y : ℕ) (n : ℤ) → holds (Names y) n ≡ true → holds (Names (bit_or x y)) n ≡ true
unfolding holds
place_second x y (pos k) h =
    let both = bit_at_or x y k in
    let small = bit_at-lt (bit_or x y) k in
    grind (arith, nat_tests, both, small, h)
place_second x y (negsuc k) h = h

held_first : (s t : Side) (n : ℤ) → holds s n ≡ true → holds (joined s t) n ≡ true
unfolding joined holds
held_first (Span a b) (Span c d) n h =
    let p = between_parts a b n h in
    between_from (int_min a c) (int_max b d) n (omega (arith, ints, clamps)) (omega (arith, ints, clamps))
held_first (Span a b) (Names y) n h = h
held_first (Names x) (Span c d) n h = h
held_first (Names x) (Names y) n h = place_first x y n h

held_second : (s t : Side) (n : ℤ) → are_like s t ≡ true → holds t n ≡ true → holds (joined s t) n ≡ true
unfolding joined holds
held_second (Span a b) (Span c d) n like h =
    let p = between_parts c d n h in
    between_from (int_min a c) (int_max b d) n (omega (arith, ints, clamps)) (omega (arith, ints, clamps))
held_second (Span a b) (Names y) n like h = absurd (true≢false (sym like))
held_second (Names x) (Span c d) n like h = absurd (true≢false (sym like))
held_second (Names x) (Names y) n like h = place_second x y n h

-- ---- one box more

abbrev pub holds_if : Option Side → ℤ → Bool
holds_if None n = false
holds_if (Some side) n = holds side n

to_side : (kind : Kind) (hull : Option Side) (side : Side) → IsSideIf (is_side_of kind) hull → is_side_of kind side ≡ true → is_side_of kind (joined_to hull side) ≡ true
to_side kind None side first second = second
to_side kind (Some hull) side first second = joined_is kind hull side first second

to_kept : (hull : Option Side) (side : Side) (n : ℤ) → holds_if hull n ≡ true → holds (joined_to hull side) n ≡ true
to_kept None side n h = absurd (true≢false (sym h))
to_kept (Some hull) side n h = held_first hull side n h

to_new : (kind : Kind) (hull : Option Side) (side : Side) (n : ℤ) → IsSideIf (is_side_of kind) hull → is_side_of kind side ≡ true → holds side n ≡ true → holds (joined_to hull side) n ≡ true
to_new kind None side n first second h = h
to_new kind (Some hull) side n first second h = held_second hull side n (alike_sides kind hull side first second) h

-- ---- all boxes

module _ (schema : Schema) (column : ℕ) (there : column < length schema.columns) (c : Column) where
  abbrev OfSchema : Region → Type 0
  OfSchema box = is_region_of schema box ≡ true

  module _ (box : Region) (of_schema : is_region_of schema box ≡ true) where
    at : (column < length box.sides) × (is_side_of (get_or schema.columns column c).kind (get_or box.sides column (Names 0)) ≡ true)
    unfolding is_region_of
    at = sides_at schema.columns box.sides column c (Names 0) of_schema there

    with_is : (hull : Option Side) → joined_with column hull box ≡ Some (joined_to hull (get_or box.sides column (Names 0)))
    with_is hull = ap (joined_if hull) (slice_get-get_or box.sides column (Names 0) at.0)

    with_side : (hull : Option Side) → IsSideIf (is_side_of (get_or schema.columns column c).kind) hull → IsSideIf (is_side_of (get_or schema.columns column c).kind) (joined_with column hull box)
    with_side hull is =
        subst (IsSideIf (is_side_of (get_or schema.columns column c).kind)) (sym (with_is hull))
        (to_side (get_or schema.columns column c).kind hull (get_or box.sides column (Names 0)) is at.1)

    with_kept : (hull : Option Side) (n : ℤ) → holds_if hull n ≡ true → holds_if (joined_with column hull box) n ≡ true
    with_kept hull n h =
        subst (λ (found : Option Side). holds_if found n ≡ true) (sym (with_is hull)) (to_kept hull (get_or box.sides column (Names 0)) n h)

    with_new : (hull : Option Side) (row : Row) → IsSideIf (is_side_of (get_or schema.columns column c).kind) hull → has box row ≡ true → holds_if (joined_with column hull box) (get_or row.cells column (pos 0)) ≡ true
    unfolding has
    with_new hull row is h =
        subst (λ (found : Option Side). holds_if found (get_or row.cells column (pos 0)) ≡ true) (sym (with_is hull))
        (to_new (get_or schema.columns column c).kind hull (get_or box.sides column (Names 0)) (get_or row.cells column (pos 0)) is at.1
        (held_at box.sides row.cells column (Names 0) at.0 h))

  pub hull_side : (boxes : List Region) (hull : Option Side) → All OfSchema boxes → IsSideIf (is_side_of (get_or schema.columns column c).kind) hull →
      IsSideIf (is_side_of (get_or schema.columns column c).kind) (fold (joined_with column) hull boxes)
  hull_side [] hull of_schema is = is
  hull_side (box ∷ boxes) hull of_schema is =
      hull_side boxes (joined_with column hull box) (All-tail OfSchema box boxes of_schema) (with_side box (All-head OfSchema box boxes of_schema) hull is)

  hull_kept : (boxes : List Region) (hull : Option Side) (n : ℤ) → All OfSchema boxes → holds_if hull n ≡ true → holds_if (fold (joined_with column) hull boxes) n ≡ true
  hull_kept [] hull n of_schema h = h
  hull_kept (box ∷ boxes) hull n of_schema h =
      hull_kept boxes (joined_with column hull box) n (All-tail OfSchema box boxes of_schema) (with_kept box (All-head OfSchema box boxes of_schema) hull n h)

  -- a row of some box has a number of the hull
  pub hull_has : (boxes : List Region) (hull : Option Side) (row : Row) → All OfSchema boxes → IsSideIf (is_side_of (get_or schema.columns column c).kind) hull →
      list_any (λ (box : Region). has box row) boxes ≡ true → holds_if (fold (joined_with column) hull boxes) (get_or row.cells column (pos 0)) ≡ true
  hull_has [] hull row of_schema is h = absurd (true≢false (sym h))
  hull_has (box ∷ boxes) hull row of_schema is h =
      by_test (has box row) refl
      (hull_has boxes (joined_with column hull box) row (All-tail OfSchema box boxes of_schema) (with_side box (All-head OfSchema box boxes of_schema) hull is))
    where
      by_test : (test : Bool) → has box row ≡ test → (list_any (λ (b : Region). has b row) boxes ≡ true → holds_if (fold (joined_with column) (joined_with column hull box) boxes) (get_or row.cells column (pos 0)) ≡ true) → holds_if (fold (joined_with column) (joined_with column hull box) boxes) (get_or row.cells column (pos 0)) ≡ true
      by_test true e next =
          hull_kept boxes (joined_with column hull box) (get_or row.cells column (pos 0)) (All-tail OfSchema box boxes of_schema)
          (with_new box (All-head OfSchema box boxes of_schema) hull row is e)
      by_test false e next = next (sym (ap (λ test. test || list_any (λ (b : Region). has b row) boxes) e) ∙ h)
