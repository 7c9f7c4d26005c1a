-- The bits of stated names, from the last name to the first.
use Rattle.std.proofs.Common.{◌≡◌, ℕ, zero, suc, ◌+◌, ◌-◌, ◌*◌, ◌^◌, ◌<◌, ◌≤◌, List, [], ◌∷◌, length, drop, get_or, refl, arith}
use Rattle.std.proofs.lemmas.List.{drop_all, drop_more}
use Rattle.std.proofs.Math.Nat.{pow-suc}
use Rattle.std.proofs.Math.Pow.{pow_mono}
use Rattle.pc_lang.specs.Claims.{bit_if, bits_of, is_among}

-- the name before
pub bits_step : (stated names : List (List ℕ)) (place bits bit : ℕ) (name : List ℕ) → 0 < place → place ≤ length names → name ≡ get_or names (place - 1) name → bits ≡ bits_of stated (drop place names) → bit ≡ bit_if (is_among stated name) → bits * 2 + bit ≡ bits_of stated (drop (place - 1) names)
unfolding bits_of
bits_step stated names zero bits bit name some inside is passed found = absurd (omega (arith, some))
bits_step stated names (suc place) bits bit name some inside is passed found =
    let less : suc place - 1 ≡ place = omega arith in
    let more : place + 1 ≡ suc place = omega arith in
    let here : name ≡ get_or names place name = rw less at is in
    rw (less, drop_more names place name (omega arith), more, ← here, passed, found) (omega arith)

-- one bit more has room
pub bits_room : (bits bit count place : ℕ) → 0 < place → place ≤ count → bits < 2 ^ (count - place) → bit ≤ 1 → bits * 2 + bit < 2 ^ (count - (place - 1))
bits_room bits bit count place some inside room small =
    let more : count - (place - 1) ≡ suc (count - place) = omega arith in
    rw (more, pow-suc 2 (count - place)) (omega (arith, room, small))

pub bits_none : (stated names : List (List ℕ)) (place : ℕ) → length names ≤ place → bits_of stated (drop place names) ≡ 0
unfolding bits_of
bits_none stated names place past = rw (drop_all place names past) refl

pub ruleset steps = (bits_step, bits_room, bits_none, pow_mono)
