-- A proper cut divides its box.
use Rattle.std.proofs.Common.{◌≡◌, ℕ, zero, suc, ◌<◌, nat_lt, int_le, int_lt, true, ℤ, pos, ◌<ℤ◌, ◌+ℤ◌, List, [], ◌∷◌, length, get_or, set, ◌∙◌, ap, arith, lt-ltb}
use Rattle.std.specs.Int.{int_min, int_max}
use Rattle.std.specs.Int.Bits.{bit_and}
use Rattle.std.proofs.lemmas.Int.{ints, clamps}
use Rattle.std.proofs.lemmas.Bool.{and_parts, and_from}
use Rattle.std.proofs.lemmas.Option.{slice_get-get_or}
use Rattle.pc_model.specs.declared.region.Side.{Side}
use Rattle.pc_model.specs.declared.region.Side.TheVariants.{Span, Names}
use Rattle.pc_model.specs.declared.region.Region.{Region}
use Rattle.pc_model.specs.declared.tree.Cut.{Cut}
use Rattle.pc_model.specs.declared.tree.Cut.TheVariants.{At, Among}
use Rattle.pc_model.specs.Membership.{holds, has}
use Rattle.pc_model.specs.Places.{is_place_of, places_outside}
use Rattle.pc_model.specs.CutTrees.{column_of, first_side, second_side, side_at, with_side, HasRow, IsProper}
use Rattle.pc_model.proofs.Between.{test_from_le, between_parts}
use Rattle.pc_box.specs.Cuts.{divides_side, divides_found, Divides}
use Rattle.pc_box.proofs.Places.{some_from_place}
use Rattle.pc_box.proofs.Rows.{all_held}

-- an empty set has no place
no_place : (n : ℤ) → is_place_of 0 n ≡ true → ⊥
no_place n h = let some = some_from_place 0 n h in omega arith

-- a cut that leaves numbers of a side in both parts divides it
side_divides : (at : Cut) (side : Side) (n m : ℤ) → holds (first_side at side) n ≡ true → holds (second_side at side) m ≡ true → divides_side at side ≡ true
unfolding holds first_side second_side divides_side
side_divides (At column at) (Span low high) n m h k =
    let p = between_parts low (int_min high at) n h in
    let q = between_parts (int_max low (at +ℤ pos 1)) high m k in
    let below : at <ℤ high = omega (arith, ints, clamps) in
    let less : int_lt at high ≡ true = grind (arith, ints, below) in
    and_from (int_le low at) (int_lt at high) (test_from_le low at (omega (arith, ints, clamps))) less
side_divides (At column at) (Names held) n m h k = absurd (no_place m k)
side_divides (Among column bits) (Span low high) n m h k = absurd (no_place m k)
side_divides (Among column bits) (Names held) n m h k =
    and_from (nat_lt 0 (bit_and held bits)) (nat_lt 0 (places_outside held bits))
    (lt-ltb 0 (bit_and held bits) (some_from_place (bit_and held bits) n h)) (lt-ltb 0 (places_outside held bits) (some_from_place (places_outside held bits) m k))

-- the side put at a place holds the number there of each row
held_at : (xs : List Side) (cells : List ℤ) (i : ℕ) (side : Side) → i < length xs → all_held (set xs i side) cells ≡ true → holds side (get_or cells i (pos 0)) ≡ true
held_at [] cells i side lt h = absurd (omega arith)
held_at (x ∷ xs) [] zero side lt h = absurd cc
held_at (x ∷ xs) [] (suc i) side lt h = absurd cc
held_at (x ∷ xs) (n ∷ cells) zero side lt h = (and_parts (holds side n) (all_held xs cells) h).0
held_at (x ∷ xs) (n ∷ cells) (suc i) side lt h = held_at xs cells i side (omega arith) (and_parts (holds x n) (all_held (set xs i side) cells) h).1

-- the side put at a column holds some number, if the box has a row
number_at : (a : Region) (column : ℕ) (side : Side) → column < length a.sides → HasRow (with_side a column side) → (n : ℤ) × (holds side n ≡ true)
unfolding has
number_at a column side there some = (get_or some.0.cells column (pos 0), held_at a.sides some.0.cells column side there some.1)

pub Divides-from_proper : (a : Region) (at : Cut) → IsProper a at → Divides a at
Divides-from_proper a at proper =
    let side = side_at a (column_of at) in
    let first = number_at a (column_of at) (first_side at side) proper.there proper.first in
    let second = number_at a (column_of at) (second_side at side) proper.there proper.second in
    ap (divides_found at) (slice_get-get_or a.sides (column_of at) (Names 0) proper.there) ∙ side_divides at side first.0 second.0 first.1 second.1
