-- The names of a set, one by one.
use Rattle.std.proofs.Common.{◌≡◌, ◌≢◌, ◌∙◌, ℕ, suc, ◌+◌, ◌*◌, ◌^◌, ◌<◌, ◌≤◌, ◌==◌, nat_lt, Bool, true, false, ℤ, pos, negsuc, [], ◌∷◌, All, get_or, if◌then◌else◌, refl, sym, ap, subst, arith, true≢false, lt-ltb, ltb-true, eqb-true, pow-suc}
use Rattle.std.specs.Prelude.{AllPairs}
use Rattle.std.specs.List.{list_any, range_with_len}
use Rattle.std.proofs.Math.Pow.{pow_mono}
use Rattle.std.proofs.lemmas.Bool.{and_from}
use Rattle.std.proofs.lemmas.Bool.Decides.{nat_tests}
use Rattle.std.proofs.lemmas.List.Elements.{All-cons, All-nil}
use Rattle.std.proofs.lemmas.List.Folds.{list_any_at}
use Rattle.std.proofs.lemmas.List.FromFn.{get_or-range_with_len, length-range_with_len}
use Rattle.std.proofs.lemmas.Nat.Bits.{bit_at-pow_other, bit_at-pow_same, bit_at_above}
use Rattle.pc_model.specs.declared.region.Side.{Side}
use Rattle.pc_model.specs.declared.region.Side.TheVariants.{Names}
use Rattle.pc_model.specs.Membership.{holds}
use Rattle.pc_model.specs.Places.{has_bit}
use Rattle.pc_model.specs.Regions.{is_set_in}
use Rattle.pc_desk_divide.specs.Pieces.{name_in, names_of}
use Rattle.pc_desk_divide.proofs.CutLists.{ShareNoNumber}
use Rattle.pc_desk_divide.proofs.Lists.{all_flat, any_flat, pairs_flat}

plus : (k : ℕ) → 0 + k ≡ k
plus k = omega arith

name_all : (P : Side → Type 0) (bits place : ℕ) → (has_bit bits place ≡ true → P (Names (2 ^ place))) → All P (name_in bits place)
name_all P bits place is = by_test (has_bit bits place) refl
  where
    by_test : (test : Bool) → has_bit bits place ≡ test → All P (if test then Names (2 ^ place) ∷ [] else [])
    by_test true e = All-cons P (Names (2 ^ place)) [] (is e) (All-nil P)
    by_test false e = All-nil P

name_pairs : (bits place : ℕ) → AllPairs ShareNoNumber (name_in bits place)
name_pairs bits place = by_test (has_bit bits place)
  where
    by_test : (test : Bool) → AllPairs ShareNoNumber (if test then Names (2 ^ place) ∷ [] else [])
    by_test true = λ i j d before inside. absurd (omega (arith, before, inside))
    by_test false = λ i j d before inside. absurd (omega (arith, before, inside))

-- a bit that is set lies below the limit
bit_below : (count bits place : ℕ) → bits < 2 ^ count → has_bit bits place ≡ true → place < count
bit_below count bits place small set = by_test (nat_lt place count) refl
  where
    by_test : (test : Bool) → nat_lt place count ≡ test → place < count
    by_test true e = ltb-true place count e
    by_test false e =
        let past : count ≤ place = grind (arith, nat_tests, e) in
        let none : has_bit bits place ≡ false = rw (bit_at_above bits count place small past) refl in
        absurd (true≢false (sym set ∙ none))

name_small : (count bits place : ℕ) → bits < 2 ^ count → has_bit bits place ≡ true → is_set_in count (Names (2 ^ place)) ≡ true
name_small count bits place small set =
    let below = bit_below count bits place small set in
    let some : 2 ^ 0 ≤ 2 ^ place = pow_mono {i = 0} {j = place} (omega arith) in
    let next : 2 ^ (place + 1) ≤ 2 ^ count = pow_mono (omega (arith, below)) in
    let more : place + 1 ≡ suc place = omega arith in
    let power : 2 ^ (place + 1) ≡ 2 ^ place * 2 = ap (λ n. 2 ^ n) more ∙ pow-suc 2 place in
    let twice : 2 ^ (place + 1) ≡ 2 ^ place + 2 ^ place = omega (arith, power) in
    and_from (nat_lt 0 (2 ^ place)) (nat_lt (2 ^ place) (2 ^ count)) (lt-ltb 0 (2 ^ place) (omega (arith, some))) (lt-ltb (2 ^ place) (2 ^ count) (omega (arith, some, next, twice)))

pub names_are : (count bits : ℕ) → bits < 2 ^ count → All (λ (piece : Side). is_set_in count piece ≡ true) (names_of bits)
unfolding names_of
names_are count bits small =
    all_flat (name_in bits) (λ (piece : Side). is_set_in count piece ≡ true) (range_with_len 0 128)
    (λ i d there. name_all (λ (piece : Side). is_set_in count piece ≡ true) bits (get_or (range_with_len 0 128) i d) (name_small count bits (get_or (range_with_len 0 128) i d) small))

only_place : (place k : ℕ) → has_bit (2 ^ place) k ≡ true → k ≡ place
only_place place k set = by_test (k == place) refl
  where
    by_test : (test : Bool) → (k == place) ≡ test → k ≡ place
    by_test true e = eqb-true k place e
    by_test false e =
        let other : k ≢ place = λ same. true≢false (sym (ap (λ (n : ℕ). n == place) same ∙ grind (arith, nat_tests)) ∙ e) in
        let none : has_bit (2 ^ place) k ≡ false = rw (bit_at-pow_other place k other) refl in
        absurd (true≢false (sym set ∙ none))

share_none : (i j : ℕ) → i ≢ j → ShareNoNumber (Names (2 ^ i)) (Names (2 ^ j))
unfolding holds
share_none i j other (pos k) first second = other (sym (only_place i k first) ∙ only_place j k second)
share_none i j other (negsuc k) first second = true≢false (sym first)

pub names_apart : (bits : ℕ) → AllPairs ShareNoNumber (names_of bits)
unfolding names_of
names_apart bits =
    pairs_flat (name_in bits) ShareNoNumber (range_with_len 0 128) (λ i d there. name_pairs bits (get_or (range_with_len 0 128) i d))
    (λ i j d before inside.
    let count = length-range_with_len 0 128 in
    let first : get_or (range_with_len 0 128) i d ≡ i = get_or-range_with_len 0 128 i d (omega (arith, before, inside, count)) ∙ plus i in
    let second : get_or (range_with_len 0 128) j d ≡ j = get_or-range_with_len 0 128 j d (omega (arith, inside, count)) ∙ plus j in
    let other : get_or (range_with_len 0 128) i d ≢ get_or (range_with_len 0 128) j d = λ same. absurd (omega (arith, before, first, second, same)) in
    name_all (λ (a : Side). All (ShareNoNumber a) (name_in bits (get_or (range_with_len 0 128) j d))) bits (get_or (range_with_len 0 128) i d)
    (λ set. name_all (ShareNoNumber (Names (2 ^ get_or (range_with_len 0 128) i d))) bits (get_or (range_with_len 0 128) j d) (λ set_too. share_none (get_or (range_with_len 0 128) i d) (get_or (range_with_len 0 128) j d) other)))

held_here : (bits k : ℕ) → has_bit bits k ≡ true → list_any (λ (piece : Side). holds piece (pos k)) (name_in bits k) ≡ true
unfolding holds
held_here bits k set = by_test (has_bit bits k) refl
  where
    by_test : (test : Bool) → has_bit bits k ≡ test → list_any (λ (piece : Side). holds piece (pos k)) (if test then Names (2 ^ k) ∷ [] else []) ≡ true
    by_test true e = rw (bit_at-pow_same k) refl
    by_test false e = absurd (true≢false (sym set ∙ e))

pub names_cover : (bits : ℕ) (n : ℤ) → bits < 2 ^ 128 → holds (Names bits) n ≡ true → list_any (λ (piece : Side). holds piece n) (names_of bits) ≡ true
unfolding names_of holds
names_cover bits (pos k) small set =
    let below = bit_below 128 bits k small set in
    any_flat (name_in bits) (λ (piece : Side). holds piece (pos k)) (range_with_len 0 128)
    ∙ list_any_at (λ place. list_any (λ (piece : Side). holds piece (pos k)) (name_in bits place)) (range_with_len 0 128) k 0 (omega (arith, below, length-range_with_len 0 128))
    (subst (λ place. list_any (λ (piece : Side). holds piece (pos k)) (name_in bits place) ≡ true) (sym (get_or-range_with_len 0 128 k 0 below ∙ plus k)) (held_here bits k set))
names_cover bits (negsuc k) small set = absurd (true≢false (sym set))
