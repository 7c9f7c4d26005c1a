-- Cuts along the open faces of a box: each is of its column, and without one the box is inside.
use Rattle.std.proofs.Common.{◌≡◌, ℕ, zero, suc, ◌+◌, ◌<◌, ◌≤◌, ◌==◌, nat_lt, int_le, int_lt, Bool, true, false, ℤ, pos, ◌≤ℤ◌, ◌<ℤ◌, ◌-ℤ◌, List, [], ◌∷◌, length, get_or, drop, Option, Some, None, is_some, if◌then◌else◌, MatchOption, refl, sym, ◌∙◌, subst, true≢false, arith, lt-ltb}
use Rattle.std.specs.Int.{int_min, int_max}
use Rattle.std.specs.Int.Bits.{bit_and}
use Rattle.std.specs.Cmp.Lexicographic.{pointwise}
use Rattle.std.proofs.lemmas.Int.{ints, clamps}
use Rattle.std.proofs.lemmas.Bool.{and_parts, and_from, eqb-false}
use Rattle.std.proofs.lemmas.List.{get_or_default}
use Rattle.std.proofs.lemmas.Option.{slice_get-get_or}
use Rattle.pc_model.specs.declared.region.Side.{Side}
use Rattle.pc_model.specs.declared.region.Side.TheVariants.{Span, Names}
use Rattle.pc_model.specs.declared.region.Region.{Region}
use Rattle.pc_model.specs.declared.tree.Cut.{Cut}
use Rattle.pc_model.specs.declared.tree.Cut.TheVariants.{At, Among}
use Rattle.pc_model.specs.CutTrees.{IsInside, IsApart, column_of, side_at}
use Rattle.pc_model.specs.Places.{places_outside}
use Rattle.pc_model.specs.Regions.{meet_sides, set_unless_empty}
use Rattle.pc_model.proofs.Between.{test_from_le}
use Rattle.pc_model.proofs.Pairs.{pointwise-drop, pointwise_end}
use Rattle.pc_box.specs.Boxes.{are_like, AreAlike}
use Rattle.pc_box.specs.Cuts.{divides_side, Divides}
use Rattle.pc_box.specs.Sides.{sides_meet, regions_meet, is_within, region_within}
use Rattle.pc_box.proofs.Bools.{above_zero}
use Rattle.pc_box.proofs.Likeness.{are_all_like, as_many_sides}
use Rattle.pc_box.proofs.Rows.{apart_from_test, inside_means}
use Rattle.pc_box.proofs.SideRest.{some_span}
use Rattle.pc_cells_tree.specs.declared.choice.Candidate.{Candidate}
use Rattle.pc_cells_tree.specs.Stances.{span_cut, set_cut, side_cut, IsAlong}

-- ---- one side

-- a cut of this column, or else the side is within the other
abbrev IsSideCut : ℕ → Side → Side → Option Cut → Type 0
IsSideCut column side other None = is_within side other ≡ true
IsSideCut column side other (Some cut) = column_of cut ≡ column

is_side_cut : (column : ℕ) (s t : Side) → are_like s t ≡ true → IsSideCut column s t (side_cut column s t)
unfolding side_cut is_within
is_side_cut column (Span a b) (Span c d) like = below (int_lt a c) refl
  where
    above : (test : Bool) → c ≤ℤ a → int_lt d b ≡ test → IsSideCut column (Span a b) (Span c d) (if test then Some (At column d) else None)
    above true low e = refl
    above false low e = and_from (int_le c a) (int_le b d) (test_from_le c a low) (test_from_le b d (grind (arith, ints, e)))

    below : (test : Bool) → int_lt a c ≡ test → IsSideCut column (Span a b) (Span c d) (if test then Some (At column (c -ℤ pos 1)) else (if int_lt d b then Some (At column d) else None))
    below true e = refl
    below false e = above (int_lt d b) (grind (arith, ints, e)) refl
is_side_cut column (Span a b) (Names y) like = absurd (true≢false (sym like))
is_side_cut column (Names x) (Span c d) like = absurd (true≢false (sym like))
is_side_cut column (Names x) (Names y) like = by_test (places_outside x y == 0) refl
  where
    by_test : (test : Bool) → (places_outside x y == 0) ≡ test → IsSideCut column (Names x) (Names y) (if test then None else Some (Among column y))
    by_test true e = e
    by_test false e = refl

pub column_is : (column : ℕ) (s t : Side) (cut : Cut) → side_cut column s t ≡ Some cut → column_of cut ≡ column
unfolding side_cut
column_is column (Span a b) (Span c d) cut e = below (int_lt a c) (int_lt d b) e
  where
    below : (low high : Bool) → (if low then Some (At column (c -ℤ pos 1)) else (if high then Some (At column d) else None)) ≡ Some cut → column_of cut ≡ column
    below true high f = let same : At column (c -ℤ pos 1) ≡ cut = cc in subst (λ x. column_of x ≡ column) same refl
    below false true f = let same : At column d ≡ cut = cc in subst (λ x. column_of x ≡ column) same refl
    below false false f = absurd (cc)
column_is column (Span a b) (Names y) cut e = absurd (cc)
column_is column (Names x) (Span c d) cut e = absurd (cc)
column_is column (Names x) (Names y) cut e = by_test (places_outside x y == 0) e
  where
    by_test : (test : Bool) → (if test then None else Some (Among column y)) ≡ Some cut → column_of cut ≡ column
    by_test true f = absurd (cc)
    by_test false f = let same : Among column y ≡ cut = cc in subst (λ x. column_of x ≡ column) same refl

some_set : (bits : ℕ) → is_some (set_unless_empty bits) ≡ true → nat_lt 0 bits ≡ true
some_set bits h = by_test (bits == 0) refl h
  where
    by_test : (test : Bool) → (bits == 0) ≡ test → is_some (if test then None else Some (Names bits)) ≡ true → nat_lt 0 bits ≡ true
    by_test true e f = absurd (true≢false (sym f))
    by_test false e f = lt-ltb 0 bits (above_zero bits (eqb-false bits 0 e))

span_divided : (column : ℕ) (a b c d : ℤ) (cut : Cut) → int_max a c ≤ℤ int_min b d → span_cut column a b c d ≡ Some cut → divides_side cut (Span a b) ≡ true
unfolding divides_side
span_divided column a b c d cut meet e = below (int_lt a c) (int_lt d b) refl refl e
  where
    below : (low high : Bool) → int_lt a c ≡ low → int_lt d b ≡ high → (if low then Some (At column (c -ℤ pos 1)) else (if high then Some (At column d) else None)) ≡ Some cut → divides_side cut (Span a b) ≡ true
    below true high f g h =
        let less : a <ℤ c = grind (arith, ints, f) in
        let reached : c ≤ℤ b = omega (arith, ints, clamps) in
        let first : a ≤ℤ (c -ℤ pos 1) = omega (arith, ints) in
        let second : int_lt (c -ℤ pos 1) b ≡ true = grind (arith, ints) in
        let same : At column (c -ℤ pos 1) ≡ cut = cc in
        subst (λ x. divides_side x (Span a b) ≡ true) same (and_from (int_le a (c -ℤ pos 1)) (int_lt (c -ℤ pos 1) b) (test_from_le a (c -ℤ pos 1) first) second)
    below false true f g h =
        let same : At column d ≡ cut = cc in
        subst (λ x. divides_side x (Span a b) ≡ true) same (and_from (int_le a d) (int_lt d b) (test_from_le a d (omega (arith, ints, clamps))) g)
    below false false f g h = absurd (cc)

set_divided : (column x y : ℕ) (cut : Cut) → nat_lt 0 (bit_and x y) ≡ true → set_cut column x y ≡ Some cut → divides_side cut (Names x) ≡ true
unfolding divides_side
set_divided column x y cut meet e = by_test (places_outside x y == 0) refl e
  where
    by_test : (test : Bool) → (places_outside x y == 0) ≡ test → (if test then None else Some (Among column y)) ≡ Some cut → divides_side cut (Names x) ≡ true
    by_test true f h = absurd (cc)
    by_test false f h =
        let same : Among column y ≡ cut = cc in
        subst (λ cut. divides_side cut (Names x) ≡ true) same
        (and_from (nat_lt 0 (bit_and x y)) (nat_lt 0 (places_outside x y)) meet (lt-ltb 0 (places_outside x y) (above_zero (places_outside x y) (eqb-false (places_outside x y) 0 f))))

-- a cut along a side that is met divides the side
side_divided : (column : ℕ) (s t : Side) (cut : Cut) → sides_meet s t ≡ true → side_cut column s t ≡ Some cut → divides_side cut s ≡ true
unfolding meet_sides side_cut
side_divided column (Span a b) (Span c d) cut meet e = span_divided column a b c d cut (some_span (int_max a c) (int_min b d) meet) e
side_divided column (Span a b) (Names y) cut meet e = absurd (true≢false (sym meet))
side_divided column (Names x) (Span c d) cut meet e = absurd (true≢false (sym meet))
side_divided column (Names x) (Names y) cut meet e = set_divided column x y cut (some_set (bit_and x y) meet) e

-- ---- all sides

meet_at : (xs ys : List Side) (i : ℕ) (d e : Side) → pointwise sides_meet xs ys ≡ true → i < length xs → sides_meet (get_or xs i d) (get_or ys i e) ≡ true
meet_at [] ys i d e h lt = absurd (omega arith)
meet_at (x ∷ xs) [] i d e h lt = absurd (true≢false (sym h))
meet_at (x ∷ xs) (y ∷ ys) zero d e h lt = (and_parts (sides_meet x y) (pointwise sides_meet xs ys) h).0
meet_at (x ∷ xs) (y ∷ ys) (suc i) d e h lt = meet_at xs ys i d e (and_parts (sides_meet x y) (pointwise sides_meet xs ys) h).1 (omega arith)

like_in : (xs ys : List Side) → are_all_like xs ys ≡ true → (i : ℕ) (d e : Side) → i < length xs → are_like (get_or xs i d) (get_or ys i e) ≡ true
like_in [] ys h i d e lt = absurd (omega arith)
like_in (x ∷ xs) [] h i d e lt = absurd (true≢false (sym h))
like_in (x ∷ xs) (y ∷ ys) h zero d e lt = (and_parts (are_like x y) (are_all_like xs ys) h).0
like_in (x ∷ xs) (y ∷ ys) h (suc i) d e lt = like_in xs ys (and_parts (are_like x y) (are_all_like xs ys) h).1 i d e (omega arith)

module _ (part region : Region) (xs ys : List Side) (is_xs : xs ≡ part.sides) (is_ys : ys ≡ region.sides) (alike : AreAlike part region) where
  pub as_long : length xs ≡ length ys
  as_long = rw (is_xs, is_ys) (as_many_sides part.sides region.sides alike)

  like_at : (place : ℕ) (d e : Side) → place < length xs → are_like (get_or xs place d) (get_or ys place e) ≡ true
  like_at place d e inside = like_in xs ys (rw (is_xs, is_ys) alike) place d e inside

  -- the cut along a side, if there is one
  pub cut_found : (place : ℕ) (d e : Side) (found other : Option Cut) → place < length xs → found ≡ side_cut place (get_or xs place d) (get_or ys place e) → found ≡ other →
      side_cut place (side_at part place) (side_at region place) ≡ other
  cut_found place d e found other inside f is =
      let inside_too : place < length ys = omega (arith, inside, as_long) in
      rw (sym is_xs, sym is_ys, get_or_default xs place (Names 0) d inside, get_or_default ys place (Names 0) e inside_too) (sym f ∙ is)

  -- a side without a cut leaves the question to the sides after it
  pub passed : (place : ℕ) (d e : Side) (found : Option Cut) → place < length xs → found ≡ side_cut place (get_or xs place d) (get_or ys place e) → found ≡ None →
      pointwise is_within (drop place xs) (drop place ys) ≡ pointwise is_within (drop (place + 1) xs) (drop (place + 1) ys)
  passed place d e found inside f none =
      let within : is_within (get_or xs place d) (get_or ys place e) ≡ true = subst (IsSideCut place (get_or xs place d) (get_or ys place e)) (sym f ∙ none) (is_side_cut place (get_or xs place d) (get_or ys place e) (like_at place d e inside)) in
      rw (pointwise-drop is_within xs ys place d e inside (omega (arith, inside, as_long)), within) refl

  -- no side is left
  pub all_passed : (place : ℕ) → length xs ≤ place → pointwise is_within xs ys ≡ pointwise is_within (drop place xs) (drop place ys) → region_within part region ≡ true
  unfolding region_within
  all_passed place past e = rw (sym is_xs, sym is_ys, e) (pointwise_end is_within xs ys place past (omega (arith, past, as_long)))

pub ruleset cuts = (as_long, passed, all_passed)

-- ---- the best of the cuts so far

module _ (P : Cut → Type 0) where
  abbrev HasSuch : Option Candidate → Type 0 → Type 0
  HasSuch best A = MatchOption best A (λ (candidate : Candidate). P candidate.cut)

  pub best_same : (before : Option Candidate) (A B : Type 0) → HasSuch before A → (A → B) → HasSuch before B
  best_same None A B says more = more says
  best_same (Some best) A B says more = says

-- ---- boxes

-- a box within another is inside
pub inside-from_sides : (a b : Region) → AreAlike a b → region_within a b ≡ true → IsInside a b
inside-from_sides a b alike within = (inside_means a b true alike (sym within)).0 refl

-- boxes that are not apart meet
pub meet-from_rows : (a b : Region) → AreAlike a b → (IsApart a b → ⊥) → regions_meet a b ≡ true
meet-from_rows a b alike together = by_test (regions_meet a b) refl
  where
    by_test : (test : Bool) → regions_meet a b ≡ test → regions_meet a b ≡ true
    by_test true e = e
    by_test false e = absurd (together (apart_from_test a b alike e))

-- a cut along a region that the box meets divides the box
pub divided-along : (a b : Region) (cut : Cut) → AreAlike a b → (IsApart a b → ⊥) → IsAlong a b cut → Divides a cut
unfolding regions_meet
divided-along a b cut alike together (column, inside, is_cut) =
    let divides = side_divided column (side_at a column) (side_at b column) cut (meet_at a.sides b.sides column (Names 0) (Names 0) (meet-from_rows a b alike together) inside) is_cut in
    rw (column_is column (side_at a column) (side_at b column) cut is_cut, slice_get-get_or a.sides column (Names 0) inside) divides

pub ruleset ends = (inside-from_sides)

pub none_left : (found : Option Cut) → ((cut : Cut) → found ≡ Some cut → ⊥) → found ≡ None
none_left None other = refl
none_left (Some cut) other = absurd (other cut refl)
