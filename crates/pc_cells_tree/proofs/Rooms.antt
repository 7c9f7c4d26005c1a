-- Each cut leaves less room.
use Rattle.std.proofs.Common.{◌≡◌, ℕ, ◌+◌, ◌<◌, nat_lt, int_le, int_lt, true, ℤ, pos, ◌<ℤ◌, ◌+ℤ◌, ◌-ℤ◌, nat_abs, List, length, get_or, set, refl, sym, true≢false, arith, ltb-true, sum_by}
use Rattle.std.specs.Int.{int_min, int_max}
use Rattle.std.specs.Int.Bits.{bit_and, xor_add_and, and_self}
use Rattle.std.proofs.lemmas.Int.{ints, clamps}
use Rattle.std.proofs.lemmas.Bool.{and_parts}
use Rattle.std.proofs.lemmas.Nat.{and_assoc}
use Rattle.std.proofs.lemmas.List.{get_or_default}
use Rattle.std.proofs.lemmas.List.Sums.{sum_by-set}
use Rattle.pc_model.specs.declared.region.Side.{Side}
use Rattle.pc_model.specs.declared.region.Side.TheVariants.{Span, Names}
use Rattle.pc_model.specs.declared.region.Region.{Region}
use Rattle.pc_model.specs.declared.tree.Cut.{Cut}
use Rattle.pc_model.specs.declared.tree.Cut.TheVariants.{At, Among}
use Rattle.pc_model.specs.Places.{places_outside}
use Rattle.pc_model.specs.CutTrees.{column_of, first_side, second_side, side_at, first_part, second_part}
use Rattle.pc_model.proofs.Between.{le_from_test}
use Rattle.pc_box.specs.Cuts.{divides_side, Divides}
use Rattle.pc_cells_tree.specs.Rooms.{room_of, room}
use Rattle.pc_box.proofs.CutRows.{column_inside, side_divided}

-- ---- one side

-- what is in the other set and what is not make the set
set_parted : (x y : ℕ) → places_outside x y + bit_and x y ≡ x
set_parted x y =
    let twice : bit_and x (bit_and x y) ≡ bit_and x y = rw (sym (and_assoc y x x), and_self x) refl in
    omega (arith, twice, xor_add_and x (bit_and x y))

span_first : (low high at : ℤ) → int_le low at ≡ true → int_lt at high ≡ true → nat_abs (int_min high at -ℤ low) < nat_abs (high -ℤ low)
span_first low high at p q =
    let above = le_from_test low at p in
    let below : at <ℤ high = grind (arith, ints, q) in
    omega (arith, ints, clamps)

span_second : (low high at : ℤ) → int_le low at ≡ true → int_lt at high ≡ true → nat_abs (high -ℤ int_max low (at +ℤ pos 1)) < nat_abs (high -ℤ low)
span_second low high at p q =
    let above = le_from_test low at p in
    let below : at <ℤ high = grind (arith, ints, q) in
    omega (arith, ints, clamps)

first_less : (cut : Cut) (side : Side) → divides_side cut side ≡ true → room_of (first_side cut side) < room_of side
unfolding first_side divides_side
first_less (At column at) (Span low high) h = let p = and_parts (int_le low at) (int_lt at high) h in span_first low high at p.0 p.1
first_less (At column at) (Names held) h = absurd (true≢false (sym h))
first_less (Among column bits) (Span low high) h = absurd (true≢false (sym h))
first_less (Among column bits) (Names held) h =
    let p = and_parts (nat_lt 0 (bit_and held bits)) (nat_lt 0 (places_outside held bits)) h in
    omega (arith, ltb-true 0 (places_outside held bits) p.1, set_parted held bits)

second_less : (cut : Cut) (side : Side) → divides_side cut side ≡ true → room_of (second_side cut side) < room_of side
unfolding second_side divides_side
second_less (At column at) (Span low high) h = let p = and_parts (int_le low at) (int_lt at high) h in span_second low high at p.0 p.1
second_less (At column at) (Names held) h = absurd (true≢false (sym h))
second_less (Among column bits) (Span low high) h = absurd (true≢false (sym h))
second_less (Among column bits) (Names held) h =
    let p = and_parts (nat_lt 0 (bit_and held bits)) (nat_lt 0 (places_outside held bits)) h in
    omega (arith, ltb-true 0 (bit_and held bits) p.0, set_parted held bits)

-- ---- the parts of a box

less_set : (sides : List Side) (column : ℕ) (side : Side) → column < length sides → room_of side < room_of (get_or sides column (Names 0)) →
    sum_by room_of (set sides column side) < sum_by room_of sides
less_set sides column side inside less = omega (arith, less, sum_by-set room_of sides column side (Names 0) inside)

module _ (a : Region) (cut : Cut) (divided : Divides a cut) where
  there : column_of cut < length a.sides
  there = column_inside a cut divided

  cut_side : divides_side cut (side_at a (column_of cut)) ≡ true
  cut_side = side_divided a cut (side_at a (column_of cut)) divided (get_or_default a.sides (column_of cut) (Names 0) (side_at a (column_of cut)) there)

  pub first_smaller : (part : Region) → part ≡ first_part a cut → room part < room a
  first_smaller part e = rw e (less_set a.sides (column_of cut) (first_side cut (side_at a (column_of cut))) there (first_less cut (side_at a (column_of cut)) cut_side))

  pub second_smaller : (part : Region) → part ≡ second_part a cut → room part < room a
  second_smaller part e = rw e (less_set a.sides (column_of cut) (second_side cut (side_at a (column_of cut))) there (second_less cut (side_at a (column_of cut)) cut_side))
