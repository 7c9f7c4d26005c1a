-- Regions of one schema are alike, and what is inside one is one.
use Rattle.std.proofs.Common.{◌≡◌, ℕ, ◌^◌, ◌&&◌, nat_lt, int_le, true, ℤ, List, [], ◌∷◌, length, refl, sym, true≢false, ◌≤◌, ◌==◌, arith, eqb-true, ltb-true, lt-ltb}
use Rattle.std.specs.Cmp.Lexicographic.{pointwise}
use Rattle.std.specs.Int.Bits.{bit_and, xor_add_and}
use Rattle.std.proofs.lemmas.Bool.{and_parts, and_from}
use Rattle.std.proofs.lemmas.Int.{ints}
use Rattle.std.proofs.lemmas.Nat.{and_le_r}
use Rattle.pc_model.specs.declared.schema.Kind.{Kind}
use Rattle.pc_model.specs.declared.schema.Kind.TheVariants.{Int, Dec, Cat}
use Rattle.pc_model.specs.declared.schema.Column.{Column}
use Rattle.pc_model.specs.declared.schema.Schema.{Schema}
use Rattle.pc_model.specs.declared.region.Side.{Side}
use Rattle.pc_model.specs.declared.region.Side.TheVariants.{Span, Names}
use Rattle.pc_model.specs.declared.region.Region.{Region}
use Rattle.pc_model.specs.Regions.{is_side_of, is_span_in, is_set_in, is_region_of}
use Rattle.pc_model.specs.Membership.{has, row_from}
use Rattle.pc_model.proofs.Between.{le_from_test, test_from_le}
use Rattle.pc_model.specs.CutTrees.{IsInside}
use Rattle.pc_box.specs.Boxes.{are_like, AreAlike, IsBox}
use Rattle.pc_model.specs.Places.{places_outside}
use Rattle.pc_box.specs.Sides.{is_within}
use Rattle.pc_box.proofs.Likeness.{all_like_turned}
use Rattle.pc_box.proofs.Rows.{within_all}

like_spans : (low high : ℤ) (s t : Side) → is_span_in low high s ≡ true → is_span_in low high t ≡ true → are_like s t ≡ true
like_spans low high (Span a b) (Span c d) h k =
    let p = and_parts (int_le a b) (int_le b high) (and_parts (int_le low a) (int_le a b && int_le b high) h).1 in
    let q = and_parts (int_le c d) (int_le d high) (and_parts (int_le low c) (int_le c d && int_le d high) k).1 in
    and_from (int_le a b) (int_le c d) p.0 q.0
like_spans low high (Span a b) (Names y) h k = absurd (true≢false (sym k))
like_spans low high (Names x) t h k = absurd (true≢false (sym h))

like_sets : (count : ℕ) (s t : Side) → is_set_in count s ≡ true → is_set_in count t ≡ true → are_like s t ≡ true
like_sets count (Names x) (Names y) h k =
    and_from (nat_lt 0 x) (nat_lt 0 y) (and_parts (nat_lt 0 x) (nat_lt x (2 ^ count)) h).0 (and_parts (nat_lt 0 y) (nat_lt y (2 ^ count)) k).0
like_sets count (Names x) (Span c d) h k = absurd (true≢false (sym k))
like_sets count (Span a b) t h k = absurd (true≢false (sym h))

like_sides : (kind : Kind) (s t : Side) → is_side_of kind s ≡ true → is_side_of kind t ≡ true → are_like s t ≡ true
like_sides (Int low high) s t h k = like_spans low high s t h k
like_sides (Dec scale low high) s t h k = like_spans low high s t h k
like_sides (Cat names) s t h k = like_sets (length names) s t h k

all_alike : (columns : List Column) (xs ys : List Side) → pointwise (λ (column : Column). is_side_of column.kind) columns xs ≡ true →
    pointwise (λ (column : Column). is_side_of column.kind) columns ys ≡ true → pointwise are_like xs ys ≡ true
all_alike [] [] [] h k = refl
all_alike [] [] (y ∷ ys) h k = absurd (true≢false (sym k))
all_alike [] (x ∷ xs) ys h k = absurd (true≢false (sym h))
all_alike (column ∷ columns) [] ys h k = absurd (true≢false (sym h))
all_alike (column ∷ columns) (x ∷ xs) [] h k = absurd (true≢false (sym k))
all_alike (column ∷ columns) (x ∷ xs) (y ∷ ys) h k =
    let p = and_parts (is_side_of column.kind x) (pointwise (λ (column : Column). is_side_of column.kind) columns xs) h in
    let q = and_parts (is_side_of column.kind y) (pointwise (λ (column : Column). is_side_of column.kind) columns ys) k in
    and_from (are_like x y) (pointwise are_like xs ys) (like_sides column.kind x y p.0 q.0) (all_alike columns xs ys p.1 q.1)

pub AreAlike-from_schema : (schema : Schema) (a b : Region) → is_region_of schema a ≡ true → is_region_of schema b ≡ true → AreAlike a b
unfolding is_region_of
AreAlike-from_schema schema a b h k = all_alike schema.columns a.sides b.sides h k

pub IsBox-from_schema : (schema : Schema) (a : Region) → is_region_of schema a ≡ true → IsBox a
IsBox-from_schema schema a h = AreAlike-from_schema schema a a h h

-- ---- boxes inside a region of the schema

set_within : (x y : ℕ) → (places_outside y x == 0) ≡ true → y ≤ x
set_within x y h =
    let none : places_outside y x ≡ 0 = eqb-true (places_outside y x) 0 h in
    omega (arith, none, xor_add_and y (bit_and y x), and_le_r y (bit_and y x), and_le_r y x)

span_kept : (low high : ℤ) (s p : Side) → is_span_in low high s ≡ true → are_like s p ≡ true → is_within p s ≡ true → is_span_in low high p ≡ true
unfolding is_within
span_kept low high (Span a b) (Span c d) h like within =
    let first = and_parts (int_le low a) (int_le a b && int_le b high) h in
    let above = le_from_test low a first.0 in
    let below = le_from_test b high (and_parts (int_le a b) (int_le b high) first.1).1 in
    let some = (and_parts (int_le a b) (int_le c d) like).1 in
    let inner = and_parts (int_le a c) (int_le d b) within in
    let start = le_from_test a c inner.0 in
    let end = le_from_test d b inner.1 in
    and_from (int_le low c) (int_le c d && int_le d high) (test_from_le low c (omega (arith, ints)))
    (and_from (int_le c d) (int_le d high) some (test_from_le d high (omega (arith, ints))))
span_kept low high (Span a b) (Names y) h like within = absurd (true≢false (sym like))
span_kept low high (Names x) p h like within = absurd (true≢false (sym h))

set_kept : (count : ℕ) (s p : Side) → is_set_in count s ≡ true → are_like s p ≡ true → is_within p s ≡ true → is_set_in count p ≡ true
unfolding is_within
set_kept count (Names x) (Names y) h like within =
    let small = ltb-true x (2 ^ count) (and_parts (nat_lt 0 x) (nat_lt x (2 ^ count)) h).1 in
    let less = set_within x y within in
    and_from (nat_lt 0 y) (nat_lt y (2 ^ count)) (and_parts (nat_lt 0 x) (nat_lt 0 y) like).1 (lt-ltb y (2 ^ count) (omega arith))
set_kept count (Names x) (Span c d) h like within = absurd (true≢false (sym like))
set_kept count (Span a b) p h like within = absurd (true≢false (sym h))

side_kept : (kind : Kind) (s p : Side) → is_side_of kind s ≡ true → are_like s p ≡ true → is_within p s ≡ true → is_side_of kind p ≡ true
side_kept (Int low high) s p h like within = span_kept low high s p h like within
side_kept (Dec scale low high) s p h like within = span_kept low high s p h like within
side_kept (Cat names) s p h like within = set_kept (length names) s p h like within

sides_kept : (columns : List Column) (xs ps : List Side) → pointwise (λ (column : Column). is_side_of column.kind) columns xs ≡ true → pointwise are_like xs ps ≡ true →
    pointwise is_within ps xs ≡ true → pointwise (λ (column : Column). is_side_of column.kind) columns ps ≡ true
sides_kept [] [] [] h like within = refl
sides_kept [] [] (p ∷ ps) h like within = absurd (true≢false (sym like))
sides_kept [] (x ∷ xs) ps h like within = absurd (true≢false (sym h))
sides_kept (column ∷ columns) [] ps h like within = absurd (true≢false (sym h))
sides_kept (column ∷ columns) (x ∷ xs) [] h like within = absurd (true≢false (sym like))
sides_kept (column ∷ columns) (x ∷ xs) (p ∷ ps) h like within =
    let side = and_parts (is_side_of column.kind x) (pointwise (λ (column : Column). is_side_of column.kind) columns xs) h in
    let kind = and_parts (are_like x p) (pointwise are_like xs ps) like in
    let inner = and_parts (is_within p x) (pointwise is_within ps xs) within in
    and_from (is_side_of column.kind p) (pointwise (λ (column : Column). is_side_of column.kind) columns ps)
    (side_kept column.kind x p side.0 kind.0 inner.0) (sides_kept columns xs ps side.1 kind.1 inner.1)

-- a part of a region of the schema is one
pub is_region-from_inside : (schema : Schema) (a part : Region) → is_region_of schema a ≡ true → AreAlike a part → IsInside part a → is_region_of schema part ≡ true
unfolding is_region_of has
is_region-from_inside schema a part h alike inner =
    sides_kept schema.columns a.sides part.sides h alike
    (within_all part.sides a.sides (all_like_turned a.sides part.sides alike) (λ cells held. inner (row_from cells) held))

pub ruleset alike = (AreAlike-from_schema, IsBox-from_schema)
