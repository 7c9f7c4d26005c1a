-- A text of records as far as a loop has come.
use Rattle.std.proofs.Common.{◌≡◌, ℕ, zero, suc, ◌+◌, ◌<◌, ◌≤◌, true, false, List, [], ◌∷◌, length, drop, get_or, refl, arith}
use Rattle.std.specs.Prelude.{Some, None}
use Rattle.std.proofs.lemmas.List.{drop_all}
use Rattle.pc_desk_records.specs.declared.begin.Passage.{Passage}
use Rattle.pc_desk_records.specs.Beginnings.{begin_from, feeds_in, is_there, one_for, passed}

pub found : (passage : Passage) (at place : ℕ) (text : List ℕ) → place < length text → is_there passage (get_or text place 0) ≡ true → begin_from passage at (drop place text) ≡ Some at
unfolding begin_from
found passage at place [] less there = absurd (omega (arith, less))
found passage at zero (byte ∷ rest) less there = rw there refl
found passage at (suc place) (byte ∷ rest) less there = found passage at place rest (omega (arith, less)) there

pub goes_on : (passage : Passage) (at place : ℕ) (text : List ℕ) → place < length text → is_there passage (get_or text place 0) ≡ false → begin_from passage at (drop place text) ≡ begin_from (passed passage (get_or text place 0)) (at + 1) (drop (place + 1) text)
unfolding begin_from
goes_on passage at place [] less there = absurd (omega (arith, less))
goes_on passage at zero (byte ∷ rest) less there = rw there refl
goes_on passage at (suc place) (byte ∷ rest) less there =
    let e : suc place + 1 ≡ suc (place + 1) = omega arith in rw e (goes_on passage at place rest (omega (arith, less)) there)

pub none_left : (passage : Passage) (at place : ℕ) (text : List ℕ) → length text ≤ place → begin_from passage at (drop place text) ≡ None
unfolding begin_from
none_left passage at place text past = rw (drop_all place text past) refl

pub ruleset steps = (found, goes_on, none_left)

pub feed_passed : (place : ℕ) (text : List ℕ) → place < length text → feeds_in (drop place text) ≡ one_for (get_or text place 0) + feeds_in (drop (place + 1) text)
unfolding feeds_in
feed_passed place [] less = absurd (omega (arith, less))
feed_passed zero (byte ∷ rest) less = refl
feed_passed (suc place) (byte ∷ rest) less =
    let e : suc place + 1 ≡ suc (place + 1) = omega arith in rw e (feed_passed place rest (omega (arith, less)))

pub no_feeds : (place : ℕ) (text : List ℕ) → length text ≤ place → feeds_in (drop place text) ≡ 0
unfolding feeds_in
no_feeds place text past = rw (drop_all place text past) refl

pub one_at_most : (byte : ℕ) → one_for byte ≤ 1
one_at_most byte = grind arith

pub ruleset feeds = (feed_passed, no_feeds, one_at_most)
