-- What a region of a schema holds.
use Rattle.std.proofs.Common.{◌≡◌, ℕ, ◌-◌, ◌<◌, ◌≤◌, ◌^◌, ◌&&◌, ◌==◌, nat_lt, int_le, Bool, true, false, ℤ, pos, negsuc, ◌≤ℤ◌, List, [], ◌∷◌, length, refl, sym, ◌∙◌, true≢false, arith, ltb-true, lt-ltb}
use Rattle.std.specs.Int.{bit_at}
use Rattle.std.specs.Cmp.Lexicographic.{pointwise}
use Rattle.std.proofs.lemmas.Bool.{and_parts, and_from}
use Rattle.std.proofs.lemmas.Int.{ints}
use Rattle.std.proofs.lemmas.Nat.Bits.{bit_at_above}
use Rattle.std.proofs.Math.Pow.{pow_mono}
use Rattle.std.proofs.lemmas.Bool.Decides.{nat_tests}
use Rattle.pc_model.specs.declared.schema.Kind.{Kind}
use Rattle.pc_model.specs.declared.schema.Kind.TheVariants.{Int, Dec, Cat}
use Rattle.pc_model.specs.declared.schema.Column.{Column}
use Rattle.pc_model.specs.declared.schema.Schema.{Schema}
use Rattle.pc_model.specs.declared.row.Row.{Row}
use Rattle.pc_model.specs.declared.region.Side.{Side}
use Rattle.pc_model.specs.declared.region.Side.TheVariants.{Span, Names}
use Rattle.pc_model.specs.declared.region.Region.{Region}
use Rattle.pc_model.specs.Membership.{allows, has, holds, in_domain, is_between}
use Rattle.pc_model.specs.Places.{is_below, is_place_of}
use Rattle.pc_model.specs.Regions.{whole_side, is_side_of, is_span_in, is_set_in, is_region_of}
use Rattle.pc_model.specs.WellFormed.{IsKind}
use Rattle.pc_model.proofs.Between.{le_from_test, test_from_le, between_parts, between_from}

span_inside : (low high : ℤ) (side : Side) (n : ℤ) → is_span_in low high side ≡ true → holds side n ≡ true → is_between low high n ≡ true
unfolding holds
span_inside low high (Span from to) n h held =
    let p = and_parts (int_le low from) (int_le from to && int_le to high) h in
    let q = and_parts (int_le from to) (int_le to high) p.1 in
    let above = le_from_test low from p.0 in
    let below = le_from_test to high q.1 in
    let between = between_parts from to n held in
    between_from low high n (omega (arith, ints)) (omega (arith, ints))
span_inside low high (Names bits) n h held = absurd (true≢false (sym h))

-- a place whose bit is set in a small number
place_inside : (count bits : ℕ) (n : ℤ) → bits < 2 ^ count → is_place_of bits n ≡ true → is_below count n ≡ true
place_inside count bits (pos place) small h = by_test (nat_lt place count) refl
  where
    by_test : (test : Bool) → nat_lt place count ≡ test → nat_lt place count ≡ true
    by_test true e = e
    by_test false e =
        let past : count ≤ place = grind (arith, nat_tests, e) in
        let none : (bit_at bits place == 1) ≡ false = rw (bit_at_above bits count place small past) refl in
        absurd (true≢false (sym h ∙ none))
place_inside count bits (negsuc below) small h = absurd (true≢false (sym h))

set_inside : (count : ℕ) (side : Side) (n : ℤ) → is_set_in count side ≡ true → holds side n ≡ true → is_below count n ≡ true
unfolding holds
set_inside count (Span from to) n h held = absurd (true≢false (sym h))
set_inside count (Names bits) n h held =
    let p = and_parts (nat_lt 0 bits) (nat_lt bits (2 ^ count)) h in
    place_inside count bits n (ltb-true bits (2 ^ count) p.1) held

-- what a side of a column holds is in its domain
pub side_inside : (kind : Kind) (side : Side) (n : ℤ) → is_side_of kind side ≡ true → holds side n ≡ true → allows kind n ≡ true
unfolding allows
side_inside (Int low high) side n h held = span_inside low high side n h held
side_inside (Dec scale low high) side n h held = span_inside low high side n h held
side_inside (Cat names) side n h held = set_inside (length names) side n h held

sides_inside : (columns : List Column) (sides : List Side) (cells : List ℤ) → pointwise (λ (column : Column). is_side_of column.kind) columns sides ≡ true → pointwise holds sides cells ≡ true → pointwise (λ (column : Column). allows column.kind) columns cells ≡ true
sides_inside [] [] [] h held = refl
sides_inside [] [] (n ∷ cells) h held = absurd (true≢false (sym held))
sides_inside [] (side ∷ sides) cells h held = absurd (true≢false (sym h))
sides_inside (column ∷ columns) [] cells h held = absurd (true≢false (sym h))
sides_inside (column ∷ columns) (side ∷ sides) [] h held = absurd (true≢false (sym held))
sides_inside (column ∷ columns) (side ∷ sides) (n ∷ cells) h held =
    let p = and_parts (is_side_of column.kind side) (pointwise (λ (column : Column). is_side_of column.kind) columns sides) h in
    let q = and_parts (holds side n) (pointwise holds sides cells) held in
    and_from (allows column.kind n) (pointwise (λ (column : Column). allows column.kind) columns cells)
    (side_inside column.kind side n p.0 q.0)
    (sides_inside columns sides cells p.1 q.1)

-- a row of a region of the schema is in its domain
pub region_inside : (schema : Schema) (region : Region) (row : Row) → is_region_of schema region ≡ true → has region row ≡ true → in_domain schema row ≡ true
unfolding is_region_of has in_domain
region_inside schema region row h held = sides_inside schema.columns region.sides row.cells h held

-- two regions of a schema have as many sides
pub even_sides : (schema : Schema) (a b : Region) → is_region_of schema a ≡ true → is_region_of schema b ≡ true → length a.sides ≡ length b.sides
unfolding is_region_of
even_sides schema a b h k = sym (as_many schema.columns a.sides h) ∙ as_many schema.columns b.sides k
  where
    as_many : (columns : List Column) (sides : List Side) → pointwise (λ (column : Column). is_side_of column.kind) columns sides ≡ true → length columns ≡ length sides
    as_many [] [] h = refl
    as_many [] (side ∷ sides) h = absurd (true≢false (sym h))
    as_many (column ∷ columns) [] h = absurd (true≢false (sym h))
    as_many (column ∷ columns) (side ∷ sides) h =
        let p = and_parts (is_side_of column.kind side) (pointwise (λ (column : Column). is_side_of column.kind) columns sides) h in
        let rest = as_many columns sides p.1 in omega arith

whole_span : (low high : ℤ) → low ≤ℤ high → is_span_in low high (Span low high) ≡ true
whole_span low high ordered =
    and_from (int_le low low) (int_le low high && int_le high high) (test_from_le low low (omega (arith, ints)))
    (and_from (int_le low high) (int_le high high) (test_from_le low high ordered) (test_from_le high high (omega (arith, ints))))

whole_set : (count : ℕ) → 1 ≤ count → is_set_in count (Names (2 ^ count - 1)) ≡ true
whole_set count some =
    let above : 2 ^ 1 ≤ 2 ^ count = pow_mono some in
    and_from (nat_lt 0 (2 ^ count - 1)) (nat_lt (2 ^ count - 1) (2 ^ count)) (lt-ltb 0 (2 ^ count - 1) (omega arith)) (lt-ltb (2 ^ count - 1) (2 ^ count) (omega arith))

-- all numbers of a column are some of them
pub whole_is_side : (kind : Kind) → IsKind kind → is_side_of kind (whole_side kind) ≡ true
whole_is_side (Int low high) h = whole_span low high h.ordered
whole_is_side (Dec scale low high) h = whole_span low high h.1.ordered
whole_is_side (Cat names) h = whole_set (length names) h.some
