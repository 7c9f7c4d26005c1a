-- The names of a set's bits state these bits again.
use Rattle.std.proofs.Common.{◌≡◌, ◌≢◌, ℕ, zero, suc, ◌+◌, ◌*◌, ◌/◌, ◌^◌, ◌<◌, Bool, true, false, List, [], ◌∷◌, length, get_or, All, AllPairs, pos, refl, sym, ap, ◌∙◌, inl, inr, arith}
use Rattle.std.specs.Prelude.{bytes_eq, Ok}
use Rattle.std.specs.Int.{bit_at}
use Rattle.std.specs.List.{list_all}
use Rattle.std.proofs.lemmas.Bool.{and_from, cases_Bool, eqb-true, eqb-false, or_left}
use Rattle.std.proofs.lemmas.List.Elements.{All-head, All-tail}
use Rattle.std.proofs.lemmas.List.Folds.{list_any_at}
use Rattle.std.proofs.lemmas.Nat.{shr-shr, shr_below}
use Rattle.std.proofs.lemmas.Nat.Bits.{bit_at-lt}
use Rattle.pc_model.proofs.Lists.{AllPairs-head, AllPairs-tail, bytes_eq-other, bytes_eq-same}
use Rattle.pc_model.specs.declared.region.Side.TheVariants.{Names}
use Rattle.pc_model.specs.Places.{is_place_of}
use Rattle.pc_lang.specs.Claims.{bit_if, bits_of, is_among, set_of, stated_names}
use Rattle.pc_lang.specs.Canonical.{names_claim, names_from}

abbrev Differs : List ℕ → List ℕ → Type 0
Differs a b = a ≢ b

abbrev is_in : ℕ → ℕ → Bool
is_in bits place = is_place_of bits (pos place)

is_among-first : (name : List ℕ) (names : List (List ℕ)) → is_among (name ∷ names) name ≡ true
is_among-first name names = or_left (bytes_eq name name) (is_among names name) (bytes_eq-same name)

is_among-other : (first name : List ℕ) (names : List (List ℕ)) → first ≢ name → is_among (first ∷ names) name ≡ is_among names name
is_among-other first name names other = rw (bytes_eq-other first name other) refl

-- a name that is not in the column is not in the set
not_in_set : (bits place : ℕ) (name : List ℕ) (names : List (List ℕ)) → All (Differs name) names → is_among (names_from bits place names) name ≡ false
unfolding names_from
not_in_set bits place name [] others = refl
not_in_set bits place name (first ∷ rest) others =
    let other : first ≢ name = λ same. All-head (Differs name) first rest others (sym same) in
    let later = not_in_set bits (place + 1) name rest (All-tail (Differs name) first rest others) in
    elim (cases_Bool (is_in bits place)) [
      | inl set ↦ rw set (is_among-other first name (names_from bits (place + 1) rest) other ∙ later)
      | inr unset ↦ rw unset later
    ]

-- a further name that is not in the column adds no bit
bits_of-further : (name : List ℕ) (stated names : List (List ℕ)) → All (Differs name) names → bits_of (name ∷ stated) names ≡ bits_of stated names
unfolding bits_of
bits_of-further name stated [] others = refl
bits_of-further name stated (first ∷ rest) others =
    rw (is_among-other name first stated (All-head (Differs name) first rest others), bits_of-further name stated rest (All-tail (Differs name) first rest others)) refl

bits_step : (stated : List (List ℕ)) (name : List ℕ) (rest : List (List ℕ)) (bit rest_bits : ℕ) → bit_if (is_among stated name) ≡ bit → bits_of stated rest ≡ rest_bits → bits_of stated (name ∷ rest) ≡ bit + 2 * rest_bits
unfolding bits_of
bits_step stated name rest bit rest_bits e f = rw (e, f) refl

-- a number is its last bit and twice the others
halves : (n place : ℕ) → n / 2 ^ place ≡ bit_at n place + 2 * (n / 2 ^ (place + 1))
halves n place = let others : n / 2 ^ place / 2 ≡ n / 2 ^ (place + 1) = shr-shr n place 1 in omega (arith, others)

bit_of_set : (bits place : ℕ) → is_in bits place ≡ true → bit_at bits place ≡ 1
bit_of_set bits place e = eqb-true (bit_at bits place) 1 e

bit_of_unset : (bits place : ℕ) → is_in bits place ≡ false → bit_at bits place ≡ 0
bit_of_unset bits place e = let other = eqb-false (bit_at bits place) 1 e in let small = bit_at-lt bits place in by_number (bit_at bits place) other small
  where
    by_number : (n : ℕ) → (n ≡ 1 → ⊥) → n < 2 → n ≡ 0
    by_number zero other small = refl
    by_number (suc zero) other small = absurd (other refl)
    by_number (suc (suc n)) other small = absurd (omega arith)

nothing_above : (bits place : ℕ) → bits < 2 ^ (0 + place) → bits / 2 ^ place ≡ 0
nothing_above bits place small = let below = shr_below bits 0 place small in omega (arith, below)

-- the names of the bits from a place on state these bits
pub bits_again : (bits place : ℕ) (names : List (List ℕ)) → AllPairs Differs names → bits < 2 ^ (length names + place) → bits_of (names_from bits place names) names ≡ bits / 2 ^ place
unfolding names_from
bits_again bits place [] different small = unfold bits_of in sym (nothing_above bits place small)
bits_again bits place (name ∷ rest) different small =
    let others = AllPairs-head Differs name rest different in
    let size : suc (length rest) + place ≡ length rest + (place + 1) = omega arith in
    let later = bits_again bits (place + 1) rest (AllPairs-tail Differs name rest different) (rw size at small) in
    let after = names_from bits (place + 1) rest in
    elim (cases_Bool (is_in bits place)) [
      | inl set ↦
          let more = bits_of-further name after rest others ∙ later in
          let step = bits_step (name ∷ after) name rest 1 (bits / 2 ^ (place + 1)) (rw (is_among-first name after) refl) more in
          rw set (omega (arith, step, halves bits place, bit_of_set bits place set))
      | inr unset ↦
          let step = bits_step after name rest 0 (bits / 2 ^ (place + 1)) (rw (not_in_set bits (place + 1) name rest others) refl) later in
          rw unset (omega (arith, step, halves bits place, bit_of_unset bits place unset))
    ]

-- each of the names is one of the column
all_known : (known : List (List ℕ)) (bits place : ℕ) (names : List (List ℕ)) → All (λ name. is_among known name ≡ true) names → list_all (is_among known) (names_from bits place names) ≡ true
unfolding names_from
all_known known bits place [] all = refl
all_known known bits place (name ∷ rest) all =
    let later = all_known known bits (place + 1) rest (All-tail (λ n. is_among known n ≡ true) name rest all) in
    elim (cases_Bool (is_in bits place)) [
      | inl set ↦ rw set (and_from (is_among known name) (list_all (is_among known) (names_from bits (place + 1) rest)) (All-head (λ n. is_among known n ≡ true) name rest all) later)
      | inr unset ↦ rw unset later
    ]

own_known : (names : List (List ℕ)) → All (λ name. is_among names name ≡ true) names
own_known names = λ k d inside. list_any_at (λ other. bytes_eq other (get_or names k d)) names k d inside (bytes_eq-same (get_or names k d))

states_set : (names stated : List (List ℕ)) → (stated ≡ [] → ⊥) → stated_names names (names_claim stated) ≡ set_of names stated
unfolding stated_names
states_set names [] some = absurd (some refl)
states_set names (name ∷ []) some = refl
states_set names (first ∷ second ∷ others) some = refl

no_bits : (names : List (List ℕ)) → bits_of [] names ≡ 0
unfolding bits_of
no_bits [] = refl
no_bits (name ∷ rest) = rw (no_bits rest) refl

set_states : (names stated : List (List ℕ)) (bits : ℕ) → list_all (is_among names) stated ≡ true → bits_of stated names ≡ bits → set_of names stated ≡ Ok (Names bits)
unfolding set_of
set_states names stated bits known e = rw (known, e) refl

again_whole : (names : List (List ℕ)) (bits : ℕ) → AllPairs Differs names → bits < 2 ^ length names → bits_of (names_from bits 0 names) names ≡ bits
again_whole names bits different small =
    let size : length names ≡ length names + 0 = omega arith in
    let e : bits_of (names_from bits 0 names) names ≡ bits / 1 = bits_again bits 0 names different (rw size at small) in
    omega (arith, e)

-- a set that is not empty has a name
pub some_name : (names : List (List ℕ)) (bits : ℕ) → AllPairs Differs names → 0 < bits → bits < 2 ^ length names → names_from bits 0 names ≡ [] → ⊥
some_name names bits different some small none = omega (arith, again_whole names bits different small, no_bits names, ap (λ stated. bits_of stated names) none)

-- the claim of a set states the set
pub names_again : (names : List (List ℕ)) (bits : ℕ) → AllPairs Differs names → 0 < bits → bits < 2 ^ length names → stated_names names (names_claim (names_from bits 0 names)) ≡ Ok (Names bits)
names_again names bits different some small =
    states_set names (names_from bits 0 names) (some_name names bits different some small)
    ∙ set_states names (names_from bits 0 names) bits (all_known names bits 0 names (own_known names)) (again_whole names bits different small)
