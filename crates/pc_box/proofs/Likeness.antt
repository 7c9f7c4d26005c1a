-- Sides and boxes of one kind.
use Rattle.std.proofs.Common.{◌≡◌, nat_lt, int_le, Bool, true, List, [], ◌∷◌, ◌++◌, length, refl, sym, true≢false, arith}
use Rattle.std.specs.Cmp.Lexicographic.{pointwise}
use Rattle.std.proofs.lemmas.Bool.{and_parts, and_from}
use Rattle.pc_model.specs.declared.region.Side.{Side}
use Rattle.pc_model.specs.declared.region.Side.TheVariants.{Span, Names}
use Rattle.pc_model.specs.declared.region.Region.{Region}
use Rattle.pc_box.specs.Boxes.{are_like, AreAlike, IsBox}

like_turned : (s t : Side) → are_like s t ≡ true → are_like t s ≡ true
like_turned (Span a b) (Span c d) h = let p = and_parts (int_le a b) (int_le c d) h in and_from (int_le c d) (int_le a b) p.1 p.0
like_turned (Span a b) (Names y) h = absurd (true≢false (sym h))
like_turned (Names x) (Span c d) h = absurd (true≢false (sym h))
like_turned (Names x) (Names y) h = let p = and_parts (nat_lt 0 x) (nat_lt 0 y) h in and_from (nat_lt 0 y) (nat_lt 0 x) p.1 p.0

like_through : (s t u : Side) → are_like s t ≡ true → are_like t u ≡ true → are_like s u ≡ true
like_through (Span a b) (Span c d) (Span e f) h k =
    and_from (int_le a b) (int_le e f) (and_parts (int_le a b) (int_le c d) h).0 (and_parts (int_le c d) (int_le e f) k).1
like_through (Span a b) (Span c d) (Names z) h k = absurd (true≢false (sym k))
like_through (Span a b) (Names y) u h k = absurd (true≢false (sym h))
like_through (Names x) (Span c d) u h k = absurd (true≢false (sym h))
like_through (Names x) (Names y) (Span e f) h k = absurd (true≢false (sym k))
like_through (Names x) (Names y) (Names z) h k =
    and_from (nat_lt 0 x) (nat_lt 0 z) (and_parts (nat_lt 0 x) (nat_lt 0 y) h).0 (and_parts (nat_lt 0 y) (nat_lt 0 z) k).1

abbrev pub are_all_like : List Side → List Side → Bool
are_all_like xs ys = pointwise are_like xs ys

pub all_like_turned : (xs ys : List Side) → are_all_like xs ys ≡ true → are_all_like ys xs ≡ true
all_like_turned [] [] h = refl
all_like_turned [] (y ∷ ys) h = absurd (true≢false (sym h))
all_like_turned (x ∷ xs) [] h = absurd (true≢false (sym h))
all_like_turned (x ∷ xs) (y ∷ ys) h =
    let p = and_parts (are_like x y) (are_all_like xs ys) h in
    and_from (are_like y x) (are_all_like ys xs) (like_turned x y p.0) (all_like_turned xs ys p.1)

all_like_through : (xs ys zs : List Side) → are_all_like xs ys ≡ true → are_all_like ys zs ≡ true → are_all_like xs zs ≡ true
all_like_through [] [] [] h k = refl
all_like_through [] [] (z ∷ zs) h k = absurd (true≢false (sym k))
all_like_through [] (y ∷ ys) zs h k = absurd (true≢false (sym h))
all_like_through (x ∷ xs) [] zs h k = absurd (true≢false (sym h))
all_like_through (x ∷ xs) (y ∷ ys) [] h k = absurd (true≢false (sym k))
all_like_through (x ∷ xs) (y ∷ ys) (z ∷ zs) h k =
    let p = and_parts (are_like x y) (are_all_like xs ys) h in
    let q = and_parts (are_like y z) (are_all_like ys zs) k in
    and_from (are_like x z) (are_all_like xs zs) (like_through x y z p.0 q.0) (all_like_through xs ys zs p.1 q.1)

pub all_like_itself : (xs ys : List Side) → are_all_like xs ys ≡ true → are_all_like xs xs ≡ true
all_like_itself xs ys h = all_like_through xs ys xs h (all_like_turned xs ys h)

pub like_append : (olds news xs ys : List Side) → are_all_like olds news ≡ true → are_all_like xs ys ≡ true → are_all_like (olds ++ xs) (news ++ ys) ≡ true
like_append [] [] xs ys h k = k
like_append [] (new ∷ news) xs ys h k = absurd (true≢false (sym h))
like_append (old ∷ olds) [] xs ys h k = absurd (true≢false (sym h))
like_append (old ∷ olds) (new ∷ news) xs ys h k =
    let p = and_parts (are_like old new) (are_all_like olds news) h in
    and_from (are_like old new) (are_all_like (olds ++ xs) (news ++ ys)) p.0 (like_append olds news xs ys p.1 k)

pub as_many_sides : (xs ys : List Side) → are_all_like xs ys ≡ true → length xs ≡ length ys
as_many_sides [] [] h = refl
as_many_sides [] (y ∷ ys) h = absurd (true≢false (sym h))
as_many_sides (x ∷ xs) [] h = absurd (true≢false (sym h))
as_many_sides (x ∷ xs) (y ∷ ys) h = let rest = as_many_sides xs ys (and_parts (are_like x y) (are_all_like xs ys) h).1 in omega arith

-- ---- boxes

pub AreAlike-turned : (a b : Region) → AreAlike a b → AreAlike b a
AreAlike-turned a b h = all_like_turned a.sides b.sides h

pub AreAlike-through : (a b c : Region) → AreAlike a b → AreAlike b c → AreAlike a c
AreAlike-through a b c h k = all_like_through a.sides b.sides c.sides h k

-- what is common, cut off or left over is a box again
pub IsBox-from_alike : (a b : Region) → AreAlike a b → IsBox b
IsBox-from_alike a b h = AreAlike-through b a b (AreAlike-turned a b h) h
