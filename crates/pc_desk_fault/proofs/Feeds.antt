-- Line feeds, as far as a loop has come.
use Rattle.std.proofs.Common.{◌≡◌, ℕ, zero, suc, ◌+◌, ◌<◌, ◌≤◌, List, [], ◌∷◌, length, drop, get_or, refl, arith}
use Rattle.std.proofs.lemmas.List.{drop_all}
use Rattle.pc_desk_fault.specs.WholeFiles.{feeds_in, one_for}

pub feed_passed : (place : ℕ) (text : List ℕ) → place < length text → feeds_in (drop place text) ≡ one_for (get_or text place 0) + feeds_in (drop (place + 1) text)
unfolding feeds_in
feed_passed place [] less = absurd (omega (arith, less))
feed_passed zero (byte ∷ rest) less = refl
feed_passed (suc place) (byte ∷ rest) less =
    let e : suc place + 1 ≡ suc (place + 1) = omega arith in rw e (feed_passed place rest (omega (arith, less)))

pub no_feeds : (place : ℕ) (text : List ℕ) → length text ≤ place → feeds_in (drop place text) ≡ 0
unfolding feeds_in
no_feeds place text past = rw (drop_all place text past) refl

pub one_at_most : (byte : ℕ) → one_for byte ≤ 1
one_at_most byte = grind arith

pub ruleset feeds = (feed_passed, no_feeds, one_at_most)
