-- Each row of a box that is not in another is in one of the boxes of the rest.
use Rattle.std.proofs.Common.{◌≡◌, ℕ, ◌+◌, ◌&&◌, not, cond, Bool, true, false, ℤ, List, [], ◌∷◌, ◌++◌, length, take, drop, All, count_by, Option, Some, None, IfOk, Result, Ok, Err, if◌then◌else◌, refl, sym, ◌∙◌, ap, subst, true≢false, arith, append_assoc}
use Rattle.std.proofs.Math.Bool.{and_assoc, and-true, and-false}
use Rattle.std.proofs.lemmas.Bool.{and_parts, and_from}
use Rattle.std.proofs.lemmas.List.Elements.{All-nil, All-cons, All-append}
use Rattle.std.proofs.lemmas.List.Sums.{sum_by-append}
use Rattle.pc_num.specs.declared.memory.Memory.{Memory}
use Rattle.pc_model.specs.declared.row.Row.{Row}
use Rattle.pc_model.specs.declared.region.Side.{Side}
use Rattle.pc_model.specs.declared.region.Region.{Region}
use Rattle.pc_model.specs.Membership.{holds, has}
use Rattle.pc_model.specs.CutTrees.{IsApart}
use Rattle.pc_box.specs.Boxes.{are_like, AreAlike}
use Rattle.pc_box.specs.Sides.{sides_meet, regions_meet, common_side, lower_rest, upper_rest, box_with, rest_after, rest_of}
use Rattle.pc_box.proofs.Likeness.{are_all_like, all_like_itself, like_append}
use Rattle.pc_box.proofs.SideRows.{like_common, holds_common}
use Rattle.pc_box.proofs.SideRest.{part_holds, IsPartLike, rest_counted, lower_like, upper_like}
use Rattle.pc_box.proofs.Rows.{all_meet, all_held, apart_from_test}

-- ---- rows of boxes with the same front

held_split : (front xs : List Side) (cells : List ℤ) → all_held (front ++ xs) cells ≡ (all_held front (take (length front) cells) && all_held xs (drop (length front) cells))
held_split [] xs cells = refl
held_split (f ∷ front) xs [] = refl
held_split (f ∷ front) xs (n ∷ cells) =
    rw (held_split front xs cells) (sym (and_assoc (holds f n) (all_held front (take (length front) cells)) (all_held xs (drop (length front) cells))))

-- how many of the boxes hold the cells
abbrev held_in : List ℤ → List Region → ℕ
held_in cells boxes = count_by (λ (box : Region). all_held box.sides cells) boxes

held_in-append : (cells : List ℤ) (a b : List Region) → held_in cells (a ++ b) ≡ held_in cells a + held_in cells b
held_in-append cells a b = sum_by-append (λ (box : Region). cond (all_held box.sides cells) 1 0) a b

-- the cells after the front are held by a part and the sides after it
abbrev tail_held : Option Side → List Side → List ℤ → Bool
tail_held part back [] = false
tail_held part back (n ∷ cells) = part_holds part n && all_held back cells

box_counted : (front back : List Side) (part : Option Side) (cells : List ℤ) →
    held_in cells (box_with front part back) ≡ cond (all_held front (take (length front) cells) && tail_held part back (drop (length front) cells)) 1 0
unfolding box_with
box_counted front back None cells = by_cells (all_held front (take (length front) cells)) (drop (length front) cells)
  where
    by_cells : (a : Bool) (rest : List ℤ) → ◌≡◌ {A = ℕ} 0 (cond (a && tail_held None back rest) 1 0)
    by_cells true [] = refl
    by_cells true (n ∷ rest) = refl
    by_cells false rest = refl
box_counted front back (Some side) cells =
    let split : all_held (front ++ side ∷ back) cells ≡ (all_held front (take (length front) cells) && tail_held (Some side) back (drop (length front) cells)) =
    held_split front (side ∷ back) cells ∙ ap (λ (rest : Bool). all_held front (take (length front) cells) && rest) (by_cells (drop (length front) cells)) in
    rw split (omega arith)
  where
    by_cells : (rest : List ℤ) → all_held (side ∷ back) rest ≡ tail_held (Some side) back rest
    by_cells [] = refl
    by_cells (n ∷ rest) = refl

-- ---- the count

left_over : (s t y : Bool) → cond (s && not t) 1 0 + cond ((s && t) && not ((s && t) && y)) 1 0 ≡ cond (s && not (t && y)) 1 0
left_over false t y = refl
left_over true false y = refl
left_over true true true = refl
left_over true true false = refl

sums : (a s t p q c x y : Bool) → c ≡ (s && t) → cond p 1 0 + cond q 1 0 ≡ cond (s && not t) 1 0 →
    cond (a && (p && x)) 1 0 + cond (a && (q && x)) 1 0 + cond ((a && (c && x)) && not (a && (c && y))) 1 0 ≡ cond ((a && (s && x)) && not (a && (t && y))) 1 0
sums false s t p q c x y e f = refl
sums true s t p q c false y e f = rw (and-false p, and-false q, and-false c, and-false s) refl
sums true s t p q c true y e f = rw (and-true p, and-true q, and-true c, and-true s, e, f) (left_over s t y)

nothing_left : (a : Bool) → ◌≡◌ {A = ℕ} 0 (cond (a && not a) 1 0)
nothing_left true = refl
nothing_left false = refl

step_counted : (a : Bool) (xs ys : List Side) (x y : Side) (rest : List ℤ) → are_like x y ≡ true → sides_meet x y ≡ true →
    cond (a && tail_held (lower_rest x y) xs rest) 1 0 + cond (a && tail_held (upper_rest x y) xs rest) 1 0
    + cond ((a && all_held (common_side x y ∷ xs) rest) && not (a && all_held (common_side x y ∷ ys) rest)) 1 0
    ≡ cond ((a && all_held (x ∷ xs) rest) && not (a && all_held (y ∷ ys) rest)) 1 0
step_counted true xs ys x y [] like meet = refl
step_counted false xs ys x y [] like meet = refl
step_counted a xs ys x y (n ∷ rest) like meet =
    sums a (holds x n) (holds y n) (part_holds (lower_rest x y) n) (part_holds (upper_rest x y) n) (holds (common_side x y) n) (all_held xs rest) (all_held ys rest)
    (holds_common x y n like meet) (rest_counted x y n like meet)

rest_after_counted : (front xs ys : List Side) (cells : List ℤ) → are_all_like xs ys ≡ true → all_meet xs ys ≡ true →
    held_in cells (rest_after front xs ys) ≡ cond (all_held (front ++ xs) cells && not (all_held (front ++ ys) cells)) 1 0
rest_after_counted front [] [] cells h meet = nothing_left (all_held (front ++ []) cells)
rest_after_counted front [] (y ∷ ys) cells h meet = absurd (true≢false (sym h))
rest_after_counted front (x ∷ xs) [] cells h meet = absurd (true≢false (sym h))
rest_after_counted front (x ∷ xs) (y ∷ ys) cells h meet =
    let like = and_parts (are_like x y) (are_all_like xs ys) h in
    let met = and_parts (sides_meet x y) (all_meet xs ys) meet in
    let common = common_side x y in
    let a = all_held front (take (length front) cells) in
    let tail = drop (length front) cells in
    let lower = box_with front (lower_rest x y) xs in
    let upper = box_with front (upper_rest x y) xs in
    let later = rest_after (front ++ common ∷ []) xs ys in
    let parted : held_in cells ((lower ++ upper) ++ later) ≡ held_in cells lower + held_in cells upper + held_in cells later =
    held_in-append cells (lower ++ upper) later ∙ ap (λ (k : ℕ). k + held_in cells later) (held_in-append cells lower upper) in
    let after : held_in cells later ≡ cond ((a && all_held (common ∷ xs) tail) && not (a && all_held (common ∷ ys) tail)) 1 0 =
    rest_after_counted (front ++ common ∷ []) xs ys cells like.1 met.1
    ∙ rw (append_assoc front (common ∷ []) xs, append_assoc front (common ∷ []) ys, held_split front (common ∷ xs) cells, held_split front (common ∷ ys) cells) refl in
    parted ∙ rw (box_counted front xs (lower_rest x y) cells, box_counted front xs (upper_rest x y) cells, after, held_split front (x ∷ xs) cells, held_split front (y ∷ ys) cells)
    (step_counted a xs ys x y tail like.0 met.0)

-- ---- boxes of the same kind

abbrev AllLike : List Side → List Region → Type 0
AllLike sides boxes = All (λ (box : Region). are_all_like sides box.sides ≡ true) boxes

box_like : (olds front xs : List Side) (x : Side) (part : Option Side) → are_all_like olds front ≡ true → are_all_like xs xs ≡ true → IsPartLike x part →
    AllLike (olds ++ x ∷ xs) (box_with front part xs)
unfolding box_with
box_like olds front xs x None h k like = All-nil _
box_like olds front xs x (Some side) h k like =
    All-cons (λ (box : Region). are_all_like (olds ++ x ∷ xs) box.sides ≡ true) (record { sides = front ++ side ∷ xs }) []
    (like_append olds front (x ∷ xs) (side ∷ xs) h (and_from (are_like x side) (are_all_like xs xs) like k))
    (All-nil (λ (box : Region). are_all_like (olds ++ x ∷ xs) box.sides ≡ true))

rest_after_like : (olds front xs ys : List Side) → are_all_like olds front ≡ true → are_all_like xs ys ≡ true → all_meet xs ys ≡ true → AllLike (olds ++ xs) (rest_after front xs ys)
rest_after_like olds front [] ys g h meet = All-nil (λ (box : Region). are_all_like (olds ++ []) box.sides ≡ true)
rest_after_like olds front (x ∷ xs) [] g h meet = absurd (true≢false (sym h))
rest_after_like olds front (x ∷ xs) (y ∷ ys) g h meet =
    let like = and_parts (are_like x y) (are_all_like xs ys) h in
    let met = and_parts (sides_meet x y) (all_meet xs ys) meet in
    let itself = all_like_itself xs ys like.1 in
    let common = common_side x y in
    let P : Region → Type 0 = λ (box : Region). are_all_like (olds ++ x ∷ xs) box.sides ≡ true in
    let longer = like_append olds front (x ∷ []) (common ∷ []) g (and_from (are_like x common) true (like_common x y like.0 met.0) refl) in
    All-append P (box_with front (lower_rest x y) xs ++ box_with front (upper_rest x y) xs) (rest_after (front ++ common ∷ []) xs ys)
    (All-append P (box_with front (lower_rest x y) xs) (box_with front (upper_rest x y) xs)
    (box_like olds front xs x (lower_rest x y) g itself (lower_like x y like.0))
    (box_like olds front xs x (upper_rest x y) g itself (upper_like x y like.0)))
    (subst (λ (sides : List Side). AllLike sides (rest_after (front ++ common ∷ []) xs ys)) (append_assoc olds (x ∷ []) xs)
    (rest_after_like (olds ++ x ∷ []) (front ++ common ∷ []) xs ys longer like.1 met.1))

-- ---- the rest of a box

abbrev AreRest : Region → Region → List Region → Type 0
AreRest a b boxes = (row : Row) → count_by (λ (box : Region). has box row) boxes ≡ cond (has a row && not (has b row)) 1 0

met_rest : (a b : Region) → AreAlike a b → regions_meet a b ≡ true → AreRest a b (rest_after [] a.sides b.sides)
unfolding has regions_meet
met_rest a b alike meet row = rest_after_counted [] a.sides b.sides row.cells alike meet

met_like : (a b : Region) → AreAlike a b → regions_meet a b ≡ true → All (AreAlike a) (rest_after [] a.sides b.sides)
unfolding regions_meet
met_like a b alike meet = rest_after_like [] [] a.sides b.sides refl alike meet

apart_rest : (a b : Region) → IsApart a b → AreRest a b (a ∷ [])
apart_rest a b apart row = by_tests (has a row) (has b row) (apart row)
  where
    by_tests : (x y : Bool) → (x ≡ true → y ≡ true → ⊥) → 0 + cond x 1 0 ≡ cond (x && not y) 1 0
    by_tests true true never = absurd (never refl refl)
    by_tests true false never = refl
    by_tests false y never = refl

rest_is : (a b : Region) → AreAlike a b → AreRest a b (rest_of a b) × All (AreAlike a) (rest_of a b)
rest_is a b alike = by_test (regions_meet a b) refl
  where
    by_test : (test : Bool) → regions_meet a b ≡ test →
        AreRest a b (if test then rest_after [] a.sides b.sides else a ∷ []) × All (AreAlike a) (if test then rest_after [] a.sides b.sides else a ∷ [])
    by_test true e = (met_rest a b alike e, met_like a b alike e)
    by_test false e =
        (apart_rest a b (apart_from_test a b alike e), All-cons (AreAlike a) a [] (all_like_itself a.sides b.sides alike) (All-nil (AreAlike a)))

pub rest_rows : (a b : Region) (result : Result (List Region) Memory) → AreAlike a b → IfOk result (λ boxes. boxes ≡ rest_of a b) →
    IfOk result (λ boxes. (row : Row) → count_by (λ (box : Region). has box row) boxes ≡ cond (has a row && not (has b row)) 1 0)
rest_rows a b (Ok boxes) alike e = subst (AreRest a b) (sym e) (rest_is a b alike).0
rest_rows a b (Err memory) alike e = tt

pub rest_alike : (a b : Region) (result : Result (List Region) Memory) → AreAlike a b → IfOk result (λ boxes. boxes ≡ rest_of a b) → IfOk result (All (AreAlike a))
rest_alike a b (Ok boxes) alike e = subst (All (AreAlike a)) (sym e) (rest_is a b alike).1
rest_alike a b (Err memory) alike e = tt
