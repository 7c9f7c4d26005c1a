-- Open faces of a box, and the cuts along them.
use Rattle.std.proofs.Common.{◌≡◌, ℕ, ◌+◌, ◌*◌, ◌<◌, ◌≤◌, ◌==◌, ◌&&◌, cond, if◌then◌else◌, int_le, int_lt, Bool, true, false, List, [], ◌∷◌, length, get_or, drop, refl, sym, ◌∙◌, ap, subst, Option, Some, None, true≢false, arith, add-one, drop-cons}
use Rattle.std.specs.Cmp.Lexicographic.{pointwise}
use Rattle.std.proofs.lemmas.Int.{ints}
use Rattle.std.proofs.lemmas.Bool.{and_parts, and_from, eqb-true, eqb-false}
use Rattle.std.proofs.lemmas.List.{drop_all}
use Rattle.pc_model.specs.declared.region.Side.{Side}
use Rattle.pc_model.specs.declared.region.Side.TheVariants.{Span, Names}
use Rattle.pc_model.specs.declared.region.Region.{Region}
use Rattle.pc_model.specs.CutTrees.{IsInside}
use Rattle.pc_model.specs.Places.{places_outside}
use Rattle.pc_model.proofs.Between.{le_from_test, test_from_le}
use Rattle.pc_model.proofs.Pairs.{pointwise-drop, pointwise_end}
use Rattle.pc_box.specs.Boxes.{are_like, AreAlike}
use Rattle.pc_box.specs.Sides.{sides_meet, regions_meet, is_within, region_within}
use Rattle.pc_box.proofs.Likeness.{are_all_like, as_many_sides}
use Rattle.pc_box.proofs.Rows.{apart_from_test, test_from_apart, inside_means}
use Rattle.pc_cells_tree.specs.declared.stance.Stance.{Stance}
use Rattle.pc_cells_tree.specs.declared.stance.Stance.TheVariants.{Inside, Apart, Across}
use Rattle.pc_cells_tree.specs.Stances.{column_limit, side_faces, faces_of, open_faces, stance_of, HasMet, IsStance}

-- ---- one side

-- a side without open faces is within the other
within_unopened : (s t : Side) → are_like s t ≡ true → side_faces s t ≡ 0 → is_within s t ≡ true
unfolding side_faces is_within
within_unopened (Span a b) (Span c d) like none = by_tests (int_lt a c) (int_lt d b) refl refl none
  where
    by_tests : (low high : Bool) → int_lt a c ≡ low → int_lt d b ≡ high → ◌≡◌ {A = ℕ} (cond low 1 0 + cond high 1 0) 0 → (int_le c a && int_le b d) ≡ true
    by_tests true high e f g = absurd (omega (arith, g))
    by_tests false true e f g = absurd (omega (arith, g))
    by_tests false false e f g = and_from (int_le c a) (int_le b d) (test_from_le c a (grind (arith, ints, e))) (test_from_le b d (grind (arith, ints, f)))
within_unopened (Span a b) (Names y) like none = absurd (true≢false (sym like))
within_unopened (Names x) (Span c d) like none = absurd (true≢false (sym like))
within_unopened (Names x) (Names y) like none = by_test (places_outside x y == 0) refl none
  where
    by_test : (test : Bool) → (places_outside x y == 0) ≡ test → ◌≡◌ {A = ℕ} (cond test 0 1) 0 → (places_outside x y == 0) ≡ true
    by_test true e f = e
    by_test false e f = absurd (omega (arith, f))

pub unopened_within : (s t : Side) → is_within s t ≡ true → side_faces s t ≡ 0
unfolding side_faces is_within
unopened_within (Span a b) (Span c d) within =
    let p = and_parts (int_le c a) (int_le b d) within in
    let low = le_from_test c a p.0 in
    let high = le_from_test b d p.1 in
    let not_low : int_lt a c ≡ false = grind (arith, ints, low) in
    let not_high : int_lt d b ≡ false = grind (arith, ints, high) in
    rw (not_low, not_high) refl
unopened_within (Span a b) (Names y) within = refl
unopened_within (Names x) (Span c d) within = refl
unopened_within (Names x) (Names y) within = rw within refl

few_faces : (s t : Side) → side_faces s t ≤ 2
unfolding side_faces
few_faces (Span a b) (Span c d) = by_tests (int_lt a c) (int_lt d b)
  where
    by_tests : (low high : Bool) → cond low 1 0 + cond high 1 0 ≤ 2
    by_tests true true = omega arith
    by_tests true false = omega arith
    by_tests false true = omega arith
    by_tests false false = omega arith
few_faces (Span a b) (Names y) = omega arith
few_faces (Names x) (Span c d) = omega arith
few_faces (Names x) (Names y) = by_test (places_outside x y == 0)
  where
    by_test : (test : Bool) → cond test 0 1 ≤ 2
    by_test true = omega arith
    by_test false = omega arith

-- ---- all sides

all_within : (xs ys : List Side) → are_all_like xs ys ≡ true → faces_of xs ys ≡ 0 → pointwise is_within xs ys ≡ true
all_within [] [] like none = refl
all_within [] (y ∷ ys) like none = absurd (true≢false (sym like))
all_within (x ∷ xs) [] like none = absurd (true≢false (sym like))
all_within (x ∷ xs) (y ∷ ys) like none =
    let p = and_parts (are_like x y) (are_all_like xs ys) like in
    let here : side_faces x y ≡ 0 = omega (arith, none) in
    let later : faces_of xs ys ≡ 0 = omega (arith, none) in
    and_from (is_within x y) (pointwise is_within xs ys) (within_unopened x y p.0 here) (all_within xs ys p.1 later)

all_unopened : (xs ys : List Side) → pointwise is_within xs ys ≡ true → faces_of xs ys ≡ 0
all_unopened [] ys within = refl
all_unopened (x ∷ xs) [] within = refl
all_unopened (x ∷ xs) (y ∷ ys) within =
    let p = and_parts (is_within x y) (pointwise is_within xs ys) within in
    omega (arith, unopened_within x y p.0, all_unopened xs ys p.1)

pub faces_few : (xs ys : List Side) → faces_of xs ys ≤ 2 * length xs
faces_few [] ys = omega arith
faces_few (x ∷ xs) [] = omega arith
faces_few (x ∷ xs) (y ∷ ys) = omega (arith, few_faces x y, faces_few xs ys)

-- ---- boxes

inside-from_faces : (a b : Region) → AreAlike a b → open_faces a b ≡ 0 → IsInside a b
unfolding region_within
inside-from_faces a b alike none = (inside_means a b true alike (sym (all_within a.sides b.sides alike none))).0 refl

pub faces-from_inside : (a b : Region) → AreAlike a b → IsInside a b → open_faces a b ≡ 0
unfolding region_within
faces-from_inside a b alike inside = all_unopened a.sides b.sides ((inside_means a b (pointwise is_within a.sides b.sides) alike refl).1 inside)

not_inside : (a b : Region) (faces : ℕ) → AreAlike a b → faces ≡ open_faces a b → (faces ≡ 0 → ⊥) → IsInside a b → ⊥
not_inside a b faces alike e some inside = some (e ∙ faces-from_inside a b alike inside)

by_faces : (a b : Region) (faces : ℕ) (test : Bool) → AreAlike a b → regions_meet a b ≡ true → faces ≡ open_faces a b → (faces == 0) ≡ test → IsStance a b (if test then Inside else Across faces)
by_faces a b faces true alike meet e f = inside-from_faces a b alike (sym e ∙ eqb-true faces 0 f)
by_faces a b faces false alike meet e f = record {
  not_inside = not_inside a b faces alike e (eqb-false faces 0 f);
  not_apart = λ apart. true≢false (sym meet ∙ test_from_apart a b alike apart);
}

pub met-none : (a b : Region) (found : Option ℕ) → AreAlike a b → HasMet a b found → found ≡ None → IsStance a b Apart
met-none a b found alike says e = apart_from_test a b alike (subst (HasMet a b) e says)

pub met-some : (a b : Region) (found : Option ℕ) (faces : ℕ) (stance : Stance) → AreAlike a b → HasMet a b found → found ≡ Some faces → stance ≡ stance_of faces → IsStance a b stance
met-some a b found faces stance alike says e is =
    let met : HasMet a b (Some faces) = subst (HasMet a b) e says in
    subst (IsStance a b) (sym is) (by_faces a b faces (faces == 0) alike met.0 met.1 refl)

pub ruleset steps = (met-none, met-some)

-- ---- counting

module _ (part region : Region) (xs ys : List Side) (is_xs : xs ≡ part.sides) (is_ys : ys ≡ region.sides) (alike : AreAlike part region) where
  pub as_long : length xs ≡ length ys
  as_long = rw (is_xs, is_ys) (as_many_sides part.sides region.sides alike)

  pub faces_more : (place : ℕ) (d e : Side) → place < length xs → faces_of (drop place xs) (drop place ys) ≡ side_faces (get_or xs place d) (get_or ys place e) + faces_of (drop (place + 1) xs) (drop (place + 1) ys)
  faces_more place d e inside = let inside_too : place < length ys = omega (arith, inside, as_long) in rw (add-one, drop-cons xs place d, drop-cons ys place e) refl

  pub faces_end : (place : ℕ) → length xs ≤ place → faces_of (drop place xs) (drop place ys) ≡ 0
  faces_end place past = rw (drop_all place xs past) refl

  pub faces_whole : faces_of xs ys ≡ open_faces part region
  faces_whole = rw (is_xs, is_ys) refl

  pub faces_fit : length part.sides ≤ column_limit → faces_of xs ys ≤ 24
  faces_fit few = omega (arith, faces_few xs ys, few, ap length is_xs)

  -- as far as the sides meet
  pub met_more : (place : ℕ) (d e : Side) → place < length xs → sides_meet (get_or xs place d) (get_or ys place e) ≡ true →
      pointwise sides_meet (drop place xs) (drop place ys) ≡ pointwise sides_meet (drop (place + 1) xs) (drop (place + 1) ys)
  met_more place d e inside meet = rw (pointwise-drop sides_meet xs ys place d e inside (omega (arith, inside, as_long)), meet) refl

  pub met_stop : (place : ℕ) (d e : Side) → place < length xs → pointwise sides_meet xs ys ≡ pointwise sides_meet (drop place xs) (drop place ys) →
      sides_meet (get_or xs place d) (get_or ys place e) ≡ false → regions_meet part region ≡ false
  unfolding regions_meet
  met_stop place d e inside so_far apart = rw (sym is_xs, sym is_ys, so_far, pointwise-drop sides_meet xs ys place d e inside (omega (arith, inside, as_long)), apart) refl

  pub met_end : (place : ℕ) → length xs ≤ place → pointwise sides_meet xs ys ≡ pointwise sides_meet (drop place xs) (drop place ys) → regions_meet part region ≡ true
  unfolding regions_meet
  met_end place past so_far = rw (sym is_xs, sym is_ys, so_far) (pointwise_end sides_meet xs ys place past (omega (arith, past, as_long)))

pub ruleset counting = (as_long, faces_more, faces_end, faces_whole, faces_fit, met_more, met_stop, met_end)
