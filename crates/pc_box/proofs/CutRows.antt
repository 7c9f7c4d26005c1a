-- The parts of a cut: that its column is there, and their rows.
use Rattle.std.proofs.Common.{◌≡◌, ℕ, zero, suc, ◌<◌, ◌&&◌, not, nat_lt, int_le, int_lt, Bool, true, false, ℤ, pos, ◌≤ℤ◌, ◌<ℤ◌, ◌+ℤ◌, List, [], ◌∷◌, length, get_or, set, Option, Some, None, slice_get, refl, sym, ◌∙◌, ap, true≢false, arith}
use Rattle.std.specs.Int.{int_min, int_max}
use Rattle.std.specs.Int.Bits.{bit_and}
use Rattle.std.proofs.lemmas.Int.{ints, clamps}
use Rattle.std.proofs.Math.Bool.{and_assoc}
use Rattle.std.proofs.lemmas.Bool.{and_parts, and_from}
use Rattle.std.proofs.lemmas.Option.{slice_get_within, get_or_from_slice_get}
use Rattle.pc_model.specs.declared.row.Row.{Row}
use Rattle.pc_model.specs.declared.region.Side.{Side}
use Rattle.pc_model.specs.declared.region.Side.TheVariants.{Span, Names}
use Rattle.pc_model.specs.declared.region.Region.{Region}
use Rattle.pc_model.specs.declared.tree.Cut.{Cut}
use Rattle.pc_model.specs.declared.tree.Cut.TheVariants.{At, Among}
use Rattle.pc_model.specs.Membership.{holds, has, is_between}
use Rattle.pc_model.proofs.Between.{le_from_test, test_from_le, between_parts, between_from}
use Rattle.pc_box.specs.Boxes.{are_like, AreAlike, IsBox}
use Rattle.pc_model.specs.Places.{places_outside}
use Rattle.pc_model.specs.CutTrees.{column_of, first_side, second_side, side_at, first_part, second_part, IsProper}
use Rattle.pc_box.specs.Cuts.{takes, is_first, divides_side, divides_found, Divides}
use Rattle.pc_model.proofs.SharedPlaces.{shared_place}
use Rattle.pc_box.proofs.Places.{outside_place}
use Rattle.pc_model.proofs.Bools.{same_tests, and_last}
use Rattle.pc_box.proofs.Likeness.{are_all_like, IsBox-from_alike}
use Rattle.pc_box.proofs.Rows.{all_held, row_of_box}

-- ---- the column of a cut that divides

column_found : (sides : List Side) (column : ℕ) (at : Cut) → divides_found at (slice_get sides column) ≡ true → (column < length sides) × (divides_side at (get_or sides column (Names 0)) ≡ true)
column_found sides column at h = by_option (slice_get sides column) refl h
  where
    by_option : (found : Option Side) → slice_get sides column ≡ found → divides_found at found ≡ true → (column < length sides) × (divides_side at (get_or sides column (Names 0)) ≡ true)
    by_option None e divided = absurd (true≢false (sym divided))
    by_option (Some side) e divided = (slice_get_within sides column side e, ap (divides_side at) (get_or_from_slice_get sides column side (Names 0) e) ∙ divided)

pub column_inside : (a : Region) (at : Cut) → Divides a at → column_of at < length a.sides
column_inside a at divided = (column_found a.sides (column_of at) at divided).0

pub side_divided : (a : Region) (at : Cut) (side : Side) → Divides a at → side ≡ get_or a.sides (column_of at) side → divides_side at side ≡ true
side_divided a at side divided e = ap (divides_side at) (e ∙ other_default a.sides (column_of at) (column_inside a at divided)) ∙ (column_found a.sides (column_of at) at divided).1
  where
    other_default : (sides : List Side) (i : ℕ) → i < length sides → get_or sides i side ≡ get_or sides i (Names 0)
    other_default [] i lt = absurd (omega arith)
    other_default (x ∷ xs) zero lt = refl
    other_default (x ∷ xs) (suc i) lt = other_default xs i (omega arith)

pub ruleset inside = (column_inside, side_divided)

-- ---- the numbers of the parts of a side

-- the lesser of a greater number and this one, and the greater of a lesser one
min_is : (high at : ℤ) → at <ℤ high → int_min high at ≡ at
min_is high at below = omega (arith, ints, clamps)

max_is : (low next : ℤ) → low ≤ℤ next → int_max low next ≡ next
max_is low next above = omega (arith, ints, clamps)

first_held : (at : Cut) (side : Side) (n : ℤ) → divides_side at side ≡ true → holds (first_side at side) n ≡ (holds side n && takes at n)
unfolding holds first_side divides_side
first_held (At column at) (Span low high) n h =
    let p = and_parts (int_le low at) (int_lt at high) h in
    let below : at <ℤ high = grind (arith, ints, p.1) in
    rw (min_is high at below) (same_tests _ _
    (λ held. let q = between_parts low at n held in and_from _ _ (between_from low high n q.0 (omega (arith, ints))) (test_from_le n at q.1))
    (λ both. let q = and_parts (is_between low high n) (int_le n at) both in
    between_from low at n (between_parts low high n q.0).0 (le_from_test n at q.1)))
first_held (At column at) (Names held) n h = absurd (true≢false (sym h))
first_held (Among column bits) (Span low high) n h = absurd (true≢false (sym h))
first_held (Among column bits) (Names held) n h = shared_place held bits n

second_held : (at : Cut) (side : Side) (n : ℤ) → divides_side at side ≡ true → holds (second_side at side) n ≡ (holds side n && not (takes at n))
unfolding holds second_side divides_side
second_held (At column at) (Span low high) n h =
    let p = and_parts (int_le low at) (int_lt at high) h in
    let above = le_from_test low at p.0 in
    let next : low ≤ℤ (at +ℤ pos 1) = omega (arith, ints) in
    rw (max_is low (at +ℤ pos 1) next) (same_tests _ _
    (λ held. let q = between_parts (at +ℤ pos 1) high n held in
    let past : int_le n at ≡ false = grind (arith, ints, q.0) in
    and_from _ _ (between_from low high n (omega (arith, ints)) q.1) (ap not past))
    (λ both. let q = and_parts (is_between low high n) (not (int_le n at)) both in
    let r = between_parts low high n q.0 in
    between_from (at +ℤ pos 1) high n (past_end (int_le n at) refl q.1) r.1))
  where
    past_end : (test : Bool) → int_le n at ≡ test → not test ≡ true → (at +ℤ pos 1) ≤ℤ n
    past_end true e f = absurd (true≢false (sym f))
    past_end false e f = grind (arith, ints)
second_held (At column at) (Names held) n h = absurd (true≢false (sym h))
second_held (Among column bits) (Span low high) n h = absurd (true≢false (sym h))
second_held (Among column bits) (Names held) n h = outside_place held bits n

first_like : (at : Cut) (side : Side) → divides_side at side ≡ true → are_like side side ≡ true → are_like side (first_side at side) ≡ true
unfolding first_side divides_side
first_like (At column at) (Span low high) h k =
    let p = and_parts (int_le low at) (int_lt at high) h in
    let below : at <ℤ high = grind (arith, ints, p.1) in
    rw (min_is high at below) (and_from (int_le low high) (int_le low at) (and_parts (int_le low high) (int_le low high) k).0 p.0)
first_like (At column at) (Names held) h k = absurd (true≢false (sym h))
first_like (Among column bits) (Span low high) h k = absurd (true≢false (sym h))
first_like (Among column bits) (Names held) h k =
    and_from (nat_lt 0 held) (nat_lt 0 (bit_and held bits)) (and_parts (nat_lt 0 held) (nat_lt 0 held) k).0
    (and_parts (nat_lt 0 (bit_and held bits)) (nat_lt 0 (places_outside held bits)) h).0

second_like : (at : Cut) (side : Side) → divides_side at side ≡ true → are_like side side ≡ true → are_like side (second_side at side) ≡ true
unfolding second_side divides_side
second_like (At column at) (Span low high) h k =
    let p = and_parts (int_le low at) (int_lt at high) h in
    let below = p.1 in
    let above = le_from_test low at p.0 in
    let next : low ≤ℤ (at +ℤ pos 1) = omega (arith, ints) in
    let some : int_le (at +ℤ pos 1) high ≡ true = grind (arith, ints, below) in
    rw (max_is low (at +ℤ pos 1) next) (and_from (int_le low high) (int_le (at +ℤ pos 1) high) (and_parts (int_le low high) (int_le low high) k).0 some)
second_like (At column at) (Names held) h k = absurd (true≢false (sym h))
second_like (Among column bits) (Span low high) h k = absurd (true≢false (sym h))
second_like (Among column bits) (Names held) h k =
    and_from (nat_lt 0 held) (nat_lt 0 (places_outside held bits)) (and_parts (nat_lt 0 held) (nat_lt 0 held) k).0
    (and_parts (nat_lt 0 (bit_and held bits)) (nat_lt 0 (places_outside held bits)) h).1

-- ---- another side at a place

-- a side that holds what the one in its place held and a test takes
pub held_set : (takes : ℤ → Bool) (xs : List Side) (cells : List ℤ) (i : ℕ) (side d : Side) → i < length xs → ((n : ℤ) → holds side n ≡ (holds (get_or xs i d) n && takes n)) →
    all_held (set xs i side) cells ≡ (all_held xs cells && takes (get_or cells i (pos 0)))
held_set takes [] cells i side d lt e = absurd (omega arith)
held_set takes (x ∷ xs) [] zero side d lt e = refl
held_set takes (x ∷ xs) [] (suc i) side d lt e = refl
held_set takes (x ∷ xs) (n ∷ cells) zero side d lt e = rw (e n) (and_last (holds x n) (takes n) (all_held xs cells))
held_set takes (x ∷ xs) (n ∷ cells) (suc i) side d lt e =
    rw (held_set takes xs cells i side d (omega arith) e) (sym (and_assoc (holds x n) (all_held xs cells) (takes (get_or cells i (pos 0)))))

like_set : (xs : List Side) (i : ℕ) (side d : Side) → i < length xs → are_all_like xs xs ≡ true → (are_like (get_or xs i d) (get_or xs i d) ≡ true → are_like (get_or xs i d) side ≡ true) →
    are_all_like xs (set xs i side) ≡ true
like_set [] i side d lt h like = absurd (omega arith)
like_set (x ∷ xs) zero side d lt h like = let p = and_parts (are_like x x) (are_all_like xs xs) h in and_from (are_like x side) (are_all_like xs xs) (like p.0) p.1
like_set (x ∷ xs) (suc i) side d lt h like =
    let p = and_parts (are_like x x) (are_all_like xs xs) h in
    and_from (are_like x x) (are_all_like xs (set xs i side)) p.0 (like_set xs i side d (omega arith) p.1 like)

-- ---- the parts

module _ (a : Region) (at : Cut) (divided : Divides a at) where
  first_part_has : (row : Row) → has (first_part a at) row ≡ (has a row && is_first at row)
  unfolding has
  first_part_has row =
      let found = column_found a.sides (column_of at) at divided in
      held_set (takes at) a.sides row.cells (column_of at) (first_side at (side_at a (column_of at))) (Names 0) found.0 (λ n. first_held at (side_at a (column_of at)) n found.1)

  second_part_has : (row : Row) → has (second_part a at) row ≡ (has a row && not (is_first at row))
  unfolding has
  second_part_has row =
      let found = column_found a.sides (column_of at) at divided in
      held_set (λ n. not (takes at n)) a.sides row.cells (column_of at) (second_side at (side_at a (column_of at))) (Names 0) found.0 (λ n. second_held at (side_at a (column_of at)) n found.1)

  first_part_alike : IsBox a → AreAlike a (first_part a at)
  first_part_alike filled =
      let found = column_found a.sides (column_of at) at divided in
      like_set a.sides (column_of at) (first_side at (side_at a (column_of at))) (Names 0) found.0 filled (first_like at (side_at a (column_of at)) found.1)

  second_part_alike : IsBox a → AreAlike a (second_part a at)
  second_part_alike filled =
      let found = column_found a.sides (column_of at) at divided in
      like_set a.sides (column_of at) (second_side at (side_at a (column_of at))) (Names 0) found.0 filled (second_like at (side_at a (column_of at)) found.1)

  pub first_rows : (part : Region) → part ≡ first_part a at → (row : Row) → has part row ≡ (has a row && is_first at row)
  first_rows part e row = rw e (first_part_has row)

  pub second_rows : (part : Region) → part ≡ second_part a at → (row : Row) → has part row ≡ (has a row && not (is_first at row))
  second_rows part e row = rw e (second_part_has row)

  pub first_alike : (part : Region) → IsBox a → part ≡ first_part a at → AreAlike a part
  first_alike part filled e = rw e (first_part_alike filled)

  pub second_alike : (part : Region) → IsBox a → part ≡ second_part a at → AreAlike a part
  second_alike part filled e = rw e (second_part_alike filled)

  -- a cut that divides a box is proper
  pub IsProper-from_divides : IsBox a → IsProper a at
  IsProper-from_divides filled = record {
    there = column_inside a at divided;
    first = row_of_box (first_part a at) (IsBox-from_alike a (first_part a at) (first_part_alike filled));
    second = row_of_box (second_part a at) (IsBox-from_alike a (second_part a at) (second_part_alike filled));
  }
