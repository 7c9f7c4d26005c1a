-- The rows of two boxes, from what their sides say of numbers.
use Rattle.std.proofs.Common.{◌≡◌, ◌&&◌, not, Bool, true, false, ℤ, List, [], ◌∷◌, refl, sym, ◌∙◌, ap, true≢false, ◌↔◌, IsTrue}
use Rattle.std.specs.Cmp.Lexicographic.{pointwise}
use Rattle.std.proofs.lemmas.Bool.{and_parts, and_from, false_from_ne_true}
use Rattle.pc_model.specs.declared.row.Row.{Row}
use Rattle.pc_model.specs.declared.region.Side.{Side}
use Rattle.pc_model.specs.declared.region.Region.{Region}
use Rattle.pc_model.specs.Membership.{holds, has, row_from}
use Rattle.pc_model.specs.CutTrees.{IsInside, IsApart}
use Rattle.pc_box.specs.Boxes.{are_like, AreAlike, IsBox}
use Rattle.pc_box.specs.Sides.{sides_meet, regions_meet, is_within, region_within, common_side, common_sides}
use Rattle.pc_box.proofs.Bools.{and_crossed}
use Rattle.pc_box.proofs.Likeness.{are_all_like, all_like_turned}
use Rattle.pc_box.proofs.SideRows.{number_of_side, nothing_shared, like_common, holds_common, within_holds, within_from}

abbrev pub all_meet : List Side → List Side → Bool
all_meet xs ys = pointwise sides_meet xs ys

abbrev pub all_held : List Side → List ℤ → Bool
all_held xs cells = pointwise holds xs cells

-- a box has a row
corner : (xs ys : List Side) → are_all_like xs ys ≡ true → (cells : List ℤ) × (all_held xs cells ≡ true)
corner [] [] h = ([], refl)
corner [] (y ∷ ys) h = absurd (true≢false (sym h))
corner (x ∷ xs) [] h = absurd (true≢false (sym h))
corner (x ∷ xs) (y ∷ ys) h =
    let p = and_parts (are_like x y) (are_all_like xs ys) h in
    let here = number_of_side x y p.0 in
    let rest = corner xs ys p.1 in
    (here.0 ∷ rest.0, and_from (holds x here.0) (all_held xs rest.0) here.1 rest.1)

pub row_of_box : (a : Region) → IsBox a → (row : Row) × (has a row ≡ true)
unfolding has
row_of_box a filled = let found = corner a.sides a.sides filled in (row_from found.0, found.1)

-- sides that share the numbers of a row meet
meet_from_cells : (xs ys : List Side) (cells : List ℤ) → are_all_like xs ys ≡ true → all_held xs cells ≡ true → all_held ys cells ≡ true → all_meet xs ys ≡ true
meet_from_cells [] [] cells h p q = refl
meet_from_cells [] (y ∷ ys) cells h p q = absurd (true≢false (sym h))
meet_from_cells (x ∷ xs) [] cells h p q = absurd (true≢false (sym h))
meet_from_cells (x ∷ xs) (y ∷ ys) [] h p q = absurd (true≢false (sym p))
meet_from_cells (x ∷ xs) (y ∷ ys) (n ∷ cells) h p q =
    let like = and_parts (are_like x y) (are_all_like xs ys) h in
    let first = and_parts (holds x n) (all_held xs cells) p in
    let second = and_parts (holds y n) (all_held ys cells) q in
    and_from (sides_meet x y) (all_meet xs ys) (by_test (sides_meet x y) refl) (meet_from_cells xs ys cells like.1 first.1 second.1)
  where
    by_test : (test : Bool) → sides_meet x y ≡ test → sides_meet x y ≡ true
    by_test true e = e
    by_test false e =
        let like = and_parts (are_like x y) (are_all_like xs ys) h in
        let first = and_parts (holds x n) (all_held xs cells) p in
        let second = and_parts (holds y n) (all_held ys cells) q in
        absurd (nothing_shared x y n like.0 e first.0 second.0)

pub all_like_common : (xs ys : List Side) → are_all_like xs ys ≡ true → all_meet xs ys ≡ true → are_all_like xs (common_sides xs ys) ≡ true
all_like_common [] [] h meet = refl
all_like_common [] (y ∷ ys) h meet = absurd (true≢false (sym h))
all_like_common (x ∷ xs) [] h meet = absurd (true≢false (sym h))
all_like_common (x ∷ xs) (y ∷ ys) h meet =
    let p = and_parts (are_like x y) (are_all_like xs ys) h in
    let q = and_parts (sides_meet x y) (all_meet xs ys) meet in
    and_from (are_like x (common_side x y)) (are_all_like xs (common_sides xs ys)) (like_common x y p.0 q.0) (all_like_common xs ys p.1 q.1)

pub all_held_common : (xs ys : List Side) (cells : List ℤ) → are_all_like xs ys ≡ true → all_meet xs ys ≡ true → all_held (common_sides xs ys) cells ≡ (all_held xs cells && all_held ys cells)
all_held_common [] [] [] h meet = refl
all_held_common [] [] (n ∷ cells) h meet = refl
all_held_common [] (y ∷ ys) cells h meet = absurd (true≢false (sym h))
all_held_common (x ∷ xs) [] cells h meet = absurd (true≢false (sym h))
all_held_common (x ∷ xs) (y ∷ ys) [] h meet = refl
all_held_common (x ∷ xs) (y ∷ ys) (n ∷ cells) h meet =
    let p = and_parts (are_like x y) (are_all_like xs ys) h in
    let q = and_parts (sides_meet x y) (all_meet xs ys) meet in
    rw (holds_common x y n p.0 q.0, all_held_common xs ys cells p.1 q.1) (and_crossed (holds x n) (holds y n) (all_held xs cells) (all_held ys cells))

-- boxes whose sides meet share a row
shared_cells : (xs ys : List Side) → are_all_like xs ys ≡ true → all_meet xs ys ≡ true → (cells : List ℤ) × (all_held xs cells ≡ true) × (all_held ys cells ≡ true)
shared_cells xs ys h meet =
    let found = corner (common_sides xs ys) xs (all_like_turned xs (common_sides xs ys) (all_like_common xs ys h meet)) in
    let both = and_parts (all_held xs found.0) (all_held ys found.0) (sym (all_held_common xs ys found.0 h meet) ∙ found.1) in
    (found.0, both.0, both.1)

-- ---- apart

pub apart_from_test : (a b : Region) → AreAlike a b → regions_meet a b ≡ false → IsApart a b
unfolding has regions_meet
apart_from_test a b alike none row p q = true≢false (sym (meet_from_cells a.sides b.sides row.cells alike p q) ∙ none)

pub test_from_apart : (a b : Region) → AreAlike a b → IsApart a b → regions_meet a b ≡ false
unfolding has regions_meet
test_from_apart a b alike apart =
    false_from_ne_true (all_meet a.sides b.sides) (λ meet. let found = shared_cells a.sides b.sides alike meet in apart (row_from found.0) found.1 found.2)

pub apart_means : (a b : Region) (result : Bool) → AreAlike a b → result ≡ not (regions_meet a b) → (IsTrue result ↔ IsApart a b)
apart_means a b result alike e =
    (λ t. apart_from_test a b alike (by_test (regions_meet a b) (sym e ∙ t)), λ apart. e ∙ ap not (test_from_apart a b alike apart))
  where
    by_test : (test : Bool) → not test ≡ true → test ≡ false
    by_test false h = refl
    by_test true h = absurd (true≢false (sym h))

-- ---- inside

within_cells : (xs ys : List Side) (cells : List ℤ) → pointwise is_within xs ys ≡ true → all_held xs cells ≡ true → all_held ys cells ≡ true
within_cells [] [] cells h p = p
within_cells [] (y ∷ ys) cells h p = absurd (true≢false (sym h))
within_cells (x ∷ xs) [] cells h p = absurd (true≢false (sym h))
within_cells (x ∷ xs) (y ∷ ys) [] h p = absurd (true≢false (sym p))
within_cells (x ∷ xs) (y ∷ ys) (n ∷ cells) h p =
    let w = and_parts (is_within x y) (pointwise is_within xs ys) h in
    let q = and_parts (holds x n) (all_held xs cells) p in
    and_from (holds y n) (all_held ys cells) (within_holds x y n w.0 q.0) (within_cells xs ys cells w.1 q.1)

pub within_all : (xs ys : List Side) → are_all_like xs ys ≡ true → ((cells : List ℤ) → all_held xs cells ≡ true → all_held ys cells ≡ true) → pointwise is_within xs ys ≡ true
within_all [] [] h all = refl
within_all [] (y ∷ ys) h all = absurd (true≢false (sym h))
within_all (x ∷ xs) [] h all = absurd (true≢false (sym h))
within_all (x ∷ xs) (y ∷ ys) h all =
    let p = and_parts (are_like x y) (are_all_like xs ys) h in
    let here = number_of_side x y p.0 in
    let rest = corner xs ys p.1 in
    and_from (is_within x y) (pointwise is_within xs ys)
    (within_from x y p.0 (λ n held. (and_parts (holds y n) (all_held ys rest.0) (all (n ∷ rest.0) (and_from (holds x n) (all_held xs rest.0) held rest.1))).0))
    (within_all xs ys p.1 (λ cells held. (and_parts (holds y here.0) (all_held ys cells) (all (here.0 ∷ cells) (and_from (holds x here.0) (all_held xs cells) here.1 held))).1))

pub inside_means : (a b : Region) (result : Bool) → AreAlike a b → result ≡ region_within a b → (IsTrue result ↔ IsInside a b)
unfolding has region_within
inside_means a b result alike e = (
  λ t row held. within_cells a.sides b.sides row.cells (sym e ∙ t) held,
  λ inside. e ∙ within_all a.sides b.sides alike (λ cells held. inside (row_from cells) held),
)
