-- The first comma of a text, as far as a loop has come.
use Rattle.std.proofs.Common.{◌≡◌, ℕ, ◌+◌, ◌-◌, ◌<◌, ◌==◌, false, List, [], ◌∷◌, length, get_or, take, drop, arith}
use Rattle.std.specs.List.{position_or_len}
use Rattle.std.proofs.lemmas.List.{take_all, length-drop}
use Rattle.std.proofs.lemmas.List.Elements.{All-from_get_or}
use Rattle.std.proofs.lemmas.List.Sums.{position_or_len_is}
use Rattle.std.proofs.lemmas.List.Splits.{slice_split_first, slice_split_none}
use Rattle.std.proofs.lemmas.Bool.Decides.{nat_tests}
use Rattle.pc_desk_divide.specs.Reading.{texts_of}

-- the rest of a slice from a place on
pub rest_is : (text : List ℕ) (i : ℕ) → take (length text - i) (drop i text) ≡ drop i text
rest_is text i = take_all (length text - i) (drop i text) (omega (arith, length-drop i text))

pub texts_at : (text : List ℕ) (i : ℕ) → i < length text → ((k : ℕ) → k < i → get_or text k 0 ≡ 44 → ⊥) → get_or text i 0 ≡ 44 → texts_of text ≡ take i text ∷ texts_of (drop (i + 1) text)
texts_at text i inside before here =
    let at : position_or_len (λ byte. byte == 44) text ≡ i =
    position_or_len_is (λ byte. byte == 44) text i 0 (omega arith) (λ k lt. let absent = before k lt in grind (arith, nat_tests)) (λ _. grind (arith, nat_tests)) in
    let within : position_or_len (λ byte. byte == 44) text < length text = rw at inside in
    let split = slice_split_first (λ byte. byte == 44) text 0 within in
    rw at at split

-- no comma is there
pub texts_without : (text : List ℕ) → ((k : ℕ) → k < length text → get_or text k 0 ≡ 44 → ⊥) → texts_of text ≡ text ∷ []
texts_without text without =
    slice_split_none (λ byte. byte == 44) text (All-from_get_or (λ byte. (byte == 44) ≡ false) text 0 (λ k lt. let differs = without k lt in grind (arith, nat_tests)))

pub ruleset pieces = (rest_is, texts_at, texts_without)
