-- What the parts of a cut along an open face have of the faces: one part is apart from the region, and the other has
-- a face fewer; and no part has more faces of any region.
use Rattle.std.proofs.Common.{◌≡◌, ℕ, zero, suc, ◌+◌, ◌<◌, ◌≤◌, ◌==◌, ◌&&◌, not, cond, int_lt, Bool, true, false, ℤ, pos, ◌≤ℤ◌, ◌<ℤ◌, ◌+ℤ◌, ◌-ℤ◌, List, [], ◌∷◌, length, get_or, set, Some, None, is_some, if◌then◌else◌, ◌⊎◌, inl, inr, refl, sym, ◌∙◌, subst, true≢false, arith, eqb-true}
use Rattle.std.specs.Int.{int_min, int_max}
use Rattle.std.specs.Int.Bits.{bit_and}
use Rattle.std.specs.Cmp.Lexicographic.{pointwise}
use Rattle.std.proofs.lemmas.Int.{ints, clamps}
use Rattle.std.proofs.lemmas.Bool.{and_parts, and_from}
use Rattle.std.proofs.lemmas.List.{get_or_default}
use Rattle.pc_model.specs.declared.region.Side.{Side}
use Rattle.pc_model.specs.declared.region.Side.TheVariants.{Span, Names}
use Rattle.pc_model.specs.declared.region.Region.{Region}
use Rattle.pc_model.specs.declared.tree.Cut.{Cut}
use Rattle.pc_model.specs.declared.tree.Cut.TheVariants.{At, Among}
use Rattle.pc_model.specs.CutTrees.{column_of, first_side, second_side, side_at, first_part, second_part}
use Rattle.pc_model.specs.Membership.{has}
use Rattle.pc_model.specs.Places.{is_place_of, places_outside}
use Rattle.pc_model.specs.Regions.{meet_sides, span_unless_empty, set_unless_empty}
use Rattle.pc_model.proofs.SharedPlaces.{shared_place}
use Rattle.pc_box.specs.Boxes.{AreAlike}
use Rattle.pc_box.specs.Cuts.{is_first, divides_side, Divides}
use Rattle.pc_box.specs.Sides.{sides_meet, regions_meet}
use Rattle.pc_box.proofs.CutRows.{column_inside, side_divided, first_rows, second_rows, first_alike, second_alike}
use Rattle.pc_box.proofs.Likeness.{as_many_sides, AreAlike-turned, AreAlike-through}
use Rattle.pc_box.proofs.Rows.{apart_from_test, test_from_apart}
use Rattle.pc_box.proofs.Places.{outside_place, some_place, some_from_place}
use Rattle.pc_cells_tree.specs.Stances.{side_faces, faces_of, open_faces, side_cut, IsAlong}
use Rattle.pc_cells_tree.proofs.Choices.{column_is}

-- ---- sets

-- a set without a place is empty
no_place : (bits : ℕ) → ((n : ℤ) → is_place_of bits n ≡ true → ⊥) → bits ≡ 0
no_place zero none = refl
no_place (suc bits) none = let found = some_place (suc bits) (omega arith) in absurd (none found.0 found.1)

never_both : (a : Bool) → a ≡ true → not a ≡ true → ⊥
never_both true p q = true≢false (sym q)
never_both false p q = true≢false (sym p)

-- a place of one set that is not in another
outside_parts : (x y : ℕ) (n : ℤ) → is_place_of (places_outside x y) n ≡ true → (is_place_of x n ≡ true) × (not (is_place_of y n) ≡ true)
outside_parts x y n held = and_parts (is_place_of x n) (not (is_place_of y n)) (sym (outside_place x y n) ∙ held)

shared_parts : (x y : ℕ) (n : ℤ) → is_place_of (bit_and x y) n ≡ true → (is_place_of x n ≡ true) × (is_place_of y n ≡ true)
shared_parts x y n held = and_parts (is_place_of x n) (is_place_of y n) (sym (shared_place x y n) ∙ held)

-- a part of a set has nothing outside another where the set has nothing
part_outside : (piece x y : ℕ) → ((n : ℤ) → is_place_of piece n ≡ true → is_place_of x n ≡ true) → places_outside x y ≡ 0 → places_outside piece y ≡ 0
part_outside piece x y within none = no_place (places_outside piece y) (λ n held.
    let p = outside_parts piece y n held in
    let held_too : is_place_of (places_outside x y) n ≡ true = outside_place x y n ∙ and_from (is_place_of x n) (not (is_place_of y n)) (within n p.0) p.1 in
    omega (arith, none, some_from_place (places_outside x y) n held_too))

shared_outside : (x y : ℕ) → places_outside (bit_and x y) y ≡ 0
shared_outside x y = no_place (places_outside (bit_and x y) y) (λ n held.
    let p = outside_parts (bit_and x y) y n held in
    never_both (is_place_of y n) (shared_parts x y n p.0).1 p.1)

outside_shared : (x y : ℕ) → bit_and (places_outside x y) y ≡ 0
outside_shared x y = no_place (bit_and (places_outside x y) y) (λ n held.
    let p = shared_parts (places_outside x y) y n held in
    never_both (is_place_of y n) p.1 (outside_parts x y n p.0).1)

-- ---- no more faces

test_more : (p q : Bool) → (p ≡ true → q ≡ true) → cond p 1 0 ≤ cond q 1 0
test_more true q more = rw (more refl) (omega arith)
test_more false true more = omega arith
test_more false false more = omega arith

set_more : (piece x y : ℕ) → ((n : ℤ) → is_place_of piece n ≡ true → is_place_of x n ≡ true) → cond (places_outside piece y == 0) 0 1 ≤ cond (places_outside x y == 0) 0 1
set_more piece x y within = by_test (places_outside x y == 0) refl
  where
    at_most : (test : Bool) → cond test 0 1 ≤ 1
    at_most true = omega arith
    at_most false = omega arith

    by_test : (test : Bool) → (places_outside x y == 0) ≡ test → cond (places_outside piece y == 0) 0 1 ≤ cond test 0 1
    by_test true e = rw (part_outside piece x y within (eqb-true (places_outside x y) 0 e)) (omega arith)
    by_test false e = at_most (places_outside piece y == 0)

first_fewer : (cut : Cut) (s t : Side) → divides_side cut s ≡ true → side_faces (first_side cut s) t ≤ side_faces s t
unfolding side_faces first_side divides_side
first_fewer (At column at) (Span a b) (Span c d) h =
    let more = test_more (int_lt d (int_min b at)) (int_lt d b) (λ e.
    let less : d <ℤ int_min b at = grind (arith, ints, e) in
    let less_too : d <ℤ b = omega (arith, ints, clamps) in
    grind (arith, ints, less_too)) in
    omega (arith, more)
first_fewer (At column at) (Span a b) (Names y) h = omega arith
first_fewer (At column at) (Names x) t h = absurd (true≢false (sym h))
first_fewer (Among column bits) (Span a b) t h = absurd (true≢false (sym h))
first_fewer (Among column bits) (Names x) (Span c d) h = omega arith
first_fewer (Among column bits) (Names x) (Names y) h = set_more (bit_and x bits) x y (λ n held. (shared_parts x bits n held).0)

second_fewer : (cut : Cut) (s t : Side) → divides_side cut s ≡ true → side_faces (second_side cut s) t ≤ side_faces s t
unfolding side_faces second_side divides_side
second_fewer (At column at) (Span a b) (Span c d) h =
    let more = test_more (int_lt (int_max a (at +ℤ pos 1)) c) (int_lt a c) (λ e.
    let less : int_max a (at +ℤ pos 1) <ℤ c = grind (arith, ints, e) in
    let less_too : a <ℤ c = omega (arith, ints, clamps) in
    grind (arith, ints, less_too)) in
    omega (arith, more)
second_fewer (At column at) (Span a b) (Names y) h = omega arith
second_fewer (At column at) (Names x) t h = absurd (true≢false (sym h))
second_fewer (Among column bits) (Span a b) t h = absurd (true≢false (sym h))
second_fewer (Among column bits) (Names x) (Span c d) h = omega arith
second_fewer (Among column bits) (Names x) (Names y) h = set_more (places_outside x bits) x y (λ n held. (outside_parts x bits n held).0)

-- ---- a cut along a face

-- one part of a side does not meet the other, and the other part has a face fewer
abbrev IsPeeled : Cut → Side → Side → Type 0
IsPeeled cut s t =
    ((sides_meet (first_side cut s) t ≡ false) × (side_faces (second_side cut s) t + 1 ≤ side_faces s t)) ⊎
    ((sides_meet (second_side cut s) t ≡ false) × (side_faces (first_side cut s) t + 1 ≤ side_faces s t))

none_span : (low high : ℤ) → high <ℤ low → is_some (span_unless_empty low high) ≡ false
none_span low high less = let empty : int_lt high low ≡ true = grind (arith, ints, less) in rw empty refl

none_set : (bits : ℕ) → bits ≡ 0 → is_some (set_unless_empty bits) ≡ false
none_set bits e = rw e refl

below_peeled : (column : ℕ) (a b c d : ℤ) → int_lt a c ≡ true → IsPeeled (At column (c -ℤ pos 1)) (Span a b) (Span c d)
unfolding meet_sides side_faces first_side second_side
below_peeled column a b c d e =
    let empty : int_min (int_min b (c -ℤ pos 1)) d <ℤ int_max a c = omega (arith, ints, clamps) in
    let reached : c ≤ℤ int_max a ((c -ℤ pos 1) +ℤ pos 1) = omega (arith, ints, clamps) in
    let closed : int_lt (int_max a ((c -ℤ pos 1) +ℤ pos 1)) c ≡ false = grind (arith, ints, reached) in
    inl (none_span (int_max a c) (int_min (int_min b (c -ℤ pos 1)) d) empty, rw (closed, e) (omega arith))

above_peeled : (column : ℕ) (a b c d : ℤ) → int_lt d b ≡ true → IsPeeled (At column d) (Span a b) (Span c d)
unfolding meet_sides side_faces first_side second_side
above_peeled column a b c d e =
    let empty : int_min b d <ℤ int_max (int_max a (d +ℤ pos 1)) c = omega (arith, ints, clamps) in
    let reached : int_min b d ≤ℤ d = omega (arith, ints, clamps) in
    let closed : int_lt d (int_min b d) ≡ false = grind (arith, ints, reached) in
    inr (none_span (int_max (int_max a (d +ℤ pos 1)) c) (int_min b d) empty, rw (closed, e) (omega arith))

set_peeled : (column x y : ℕ) → (places_outside x y == 0) ≡ false → IsPeeled (Among column y) (Names x) (Names y)
unfolding meet_sides side_faces first_side second_side
set_peeled column x y e = inr (none_set (bit_and (places_outside x y) y) (outside_shared x y), rw (shared_outside x y, e) (omega arith))

side_peeled : (column : ℕ) (s t : Side) (cut : Cut) → side_cut column s t ≡ Some cut → IsPeeled cut s t
unfolding side_cut
side_peeled column (Span a b) (Span c d) cut e = by_tests (int_lt a c) (int_lt d b) refl refl e
  where
    by_tests : (low high : Bool) → int_lt a c ≡ low → int_lt d b ≡ high → (if low then Some (At column (c -ℤ pos 1)) else (if high then Some (At column d) else None)) ≡ Some cut → IsPeeled cut (Span a b) (Span c d)
    by_tests true high f g h = let same : At column (c -ℤ pos 1) ≡ cut = cc in subst (λ x. IsPeeled x (Span a b) (Span c d)) same (below_peeled column a b c d f)
    by_tests false true f g h = let same : At column d ≡ cut = cc in subst (λ x. IsPeeled x (Span a b) (Span c d)) same (above_peeled column a b c d g)
    by_tests false false f g h = absurd (cc)
side_peeled column (Span a b) (Names y) cut e = absurd (cc)
side_peeled column (Names x) (Span c d) cut e = absurd (cc)
side_peeled column (Names x) (Names y) cut e = by_test (places_outside x y == 0) refl e
  where
    by_test : (test : Bool) → (places_outside x y == 0) ≡ test → (if test then None else Some (Among column y)) ≡ Some cut → IsPeeled cut (Names x) (Names y)
    by_test true f h = absurd (cc)
    by_test false f h = let same : Among column y ≡ cut = cc in subst (λ z. IsPeeled z (Names x) (Names y)) same (set_peeled column x y f)

-- ---- another side at a column

faces-set : (xs ys : List Side) (k : ℕ) (s d e : Side) → k < length xs → k < length ys →
    faces_of (set xs k s) ys + side_faces (get_or xs k d) (get_or ys k e) ≡ faces_of xs ys + side_faces s (get_or ys k e)
faces-set [] ys k s d e lt in_ys = absurd (omega arith)
faces-set (x ∷ xs) [] k s d e lt in_ys = absurd (omega arith)
faces-set (x ∷ xs) (y ∷ ys) zero s d e lt in_ys = omega arith
faces-set (x ∷ xs) (y ∷ ys) (suc k) s d e lt in_ys = omega (arith, faces-set xs ys k s d e (omega (arith, lt)) (omega (arith, in_ys)))

and_false : (a : Bool) → (a && false) ≡ false
and_false true = refl
and_false false = refl

meet-set : (xs ys : List Side) (k : ℕ) (s e : Side) → k < length xs → k < length ys → sides_meet s (get_or ys k e) ≡ false → pointwise sides_meet (set xs k s) ys ≡ false
meet-set [] ys k s e lt in_ys none = absurd (omega arith)
meet-set (x ∷ xs) [] k s e lt in_ys none = absurd (omega arith)
meet-set (x ∷ xs) (y ∷ ys) zero s e lt in_ys none = rw none refl
meet-set (x ∷ xs) (y ∷ ys) (suc k) s e lt in_ys none = rw (meet-set xs ys k s e (omega (arith, lt)) (omega (arith, in_ys)) none) (and_false (sides_meet x y))

-- ---- the parts of a box

module _ (part : Region) (cut : Cut) (divided : Divides part cut) (region : Region) (alike : AreAlike part region) where
  abbrev column : ℕ
  column = column_of cut

  there : column < length part.sides
  there = column_inside part cut divided

  there_too : column < length region.sides
  there_too = omega (arith, column_inside part cut divided, as_many_sides part.sides region.sides alike)

  cut_side : divides_side cut (side_at part column) ≡ true
  cut_side = side_divided part cut (side_at part column) divided (get_or_default part.sides column (Names 0) (side_at part column) there)

  pub first_faces : open_faces (first_part part cut) region ≤ open_faces part region
  first_faces = omega (arith, faces-set part.sides region.sides column (first_side cut (side_at part column)) (Names 0) (Names 0) there there_too, first_fewer cut (side_at part column) (side_at region column) cut_side)

  pub second_faces : open_faces (second_part part cut) region ≤ open_faces part region
  second_faces = omega (arith, faces-set part.sides region.sides column (second_side cut (side_at part column)) (Names 0) (Names 0) there there_too, second_fewer cut (side_at part column) (side_at region column) cut_side)

  -- a part meets no region that the box does not meet
  pub first_apart : regions_meet part region ≡ false → regions_meet (first_part part cut) region ≡ false
  first_apart none =
      let filled = AreAlike-through part region part alike (AreAlike-turned part region alike) in
      let apart = apart_from_test part region alike none in
      let like = first_alike part cut divided (first_part part cut) filled refl in
      test_from_apart (first_part part cut) region (AreAlike-through (first_part part cut) part region (AreAlike-turned part (first_part part cut) like) alike)
      (λ row held also. apart row (and_parts (has part row) (is_first cut row) (sym (first_rows part cut divided (first_part part cut) refl row) ∙ held)).0 also)

  pub second_apart : regions_meet part region ≡ false → regions_meet (second_part part cut) region ≡ false
  second_apart none =
      let filled = AreAlike-through part region part alike (AreAlike-turned part region alike) in
      let apart = apart_from_test part region alike none in
      let like = second_alike part cut divided (second_part part cut) filled refl in
      test_from_apart (second_part part cut) region (AreAlike-through (second_part part cut) part region (AreAlike-turned part (second_part part cut) like) alike)
      (λ row held also. apart row (and_parts (has part row) (not (is_first cut row)) (sym (second_rows part cut divided (second_part part cut) refl row) ∙ held)).0 also)

  -- a cut along a face of the region leaves one part apart, and the other with a face fewer
  pub peeled : IsAlong part region cut →
      ((regions_meet (first_part part cut) region ≡ false) × (open_faces (second_part part cut) region + 1 ≤ open_faces part region)) ⊎
      ((regions_meet (second_part part cut) region ≡ false) × (open_faces (first_part part cut) region + 1 ≤ open_faces part region))
  unfolding regions_meet
  peeled (k, inside, is_cut) = by_side (rw (sym (column_is k (side_at part k) (side_at region k) cut is_cut)) at (side_peeled k (side_at part k) (side_at region k) cut is_cut))
    where
      by_side : IsPeeled cut (side_at part column) (side_at region column) →
          ((pointwise sides_meet (first_part part cut).sides region.sides ≡ false) × (open_faces (second_part part cut) region + 1 ≤ open_faces part region)) ⊎
          ((pointwise sides_meet (second_part part cut).sides region.sides ≡ false) × (open_faces (first_part part cut) region + 1 ≤ open_faces part region))
      by_side (inl p) = inl (
        meet-set part.sides region.sides column (first_side cut (side_at part column)) (Names 0) there there_too p.0,
        omega (arith, faces-set part.sides region.sides column (second_side cut (side_at part column)) (Names 0) (Names 0) there there_too, p.1),
      )
      by_side (inr p) = inr (
        meet-set part.sides region.sides column (second_side cut (side_at part column)) (Names 0) there there_too p.0,
        omega (arith, faces-set part.sides region.sides column (first_side cut (side_at part column)) (Names 0) (Names 0) there there_too, p.1),
      )
