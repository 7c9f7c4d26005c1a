-- The lines of a text, and those that are passed over, as far as a loop has come.
use Rattle.std.proofs.Common.{◌≡◌, ℕ, ◌+◌, ◌-◌, ◌<◌, ◌≤◌, ◌==◌, true, false, List, [], ◌∷◌, length, get_or, take, drop, refl, add-one, arith, drop-cons}
use Rattle.std.specs.List.{position_or_len}
use Rattle.std.proofs.lemmas.List.{drop_all, take_all, length-drop}
use Rattle.std.proofs.lemmas.List.Elements.{All-from_get_or}
use Rattle.std.proofs.lemmas.List.Sums.{position_or_len_is}
use Rattle.std.proofs.lemmas.List.Splits.{slice_split_first, slice_split_none}
use Rattle.std.proofs.lemmas.Bool.Decides.{nat_tests}
use Rattle.pc_lang_tokens.specs.Lexing.{is_blank}
use Rattle.pc_lang.specs.Files.{is_passed_over, lines_of}

-- the rest of a slice from a place on
pub rest_is : (text : List ℕ) (i : ℕ) → take (length text - i) (drop i text) ≡ drop i text
rest_is text i = take_all (length text - i) (drop i text) (omega (arith, length-drop i text))

-- the first line feed
pub lines_at : (text : List ℕ) (i : ℕ) → i < length text → ((k : ℕ) → k < i → get_or text k 0 ≡ 10 → ⊥) → get_or text i 0 ≡ 10 → lines_of text ≡ take i text ∷ lines_of (drop (i + 1) text)
lines_at text i inside before here =
    let at : position_or_len (λ byte. byte == 10) text ≡ i =
    position_or_len_is (λ byte. byte == 10) text i 0 (omega arith) (λ k lt. let absent = before k lt in grind (arith, nat_tests)) (λ _. grind (arith, nat_tests)) in
    let within : position_or_len (λ byte. byte == 10) text < length text = rw at inside in
    let split = slice_split_first (λ byte. byte == 10) text 0 within in
    rw at at split

-- no line feed is there
pub lines_without : (text : List ℕ) → ((k : ℕ) → k < length text → get_or text k 0 ≡ 10 → ⊥) → lines_of text ≡ text ∷ []
lines_without text without =
    slice_split_none (λ byte. byte == 10) text (All-from_get_or (λ byte. (byte == 10) ≡ false) text 0 (λ k lt. let differs = without k lt in grind (arith, nat_tests)))

pub ruleset pieces = (rest_is, lines_at, lines_without)

-- a blank is passed over
pub blank_step : (line : List ℕ) (i : ℕ) → i < length line → is_blank (get_or line i 0) ≡ true → is_passed_over (drop i line) ≡ is_passed_over (drop (i + 1) line)
unfolding is_passed_over
blank_step line i inside blank = rw (add-one, drop-cons line i 0 inside, blank) refl

-- the first byte that is no blank decides
pub blank_stop : (line : List ℕ) (i : ℕ) → i < length line → is_blank (get_or line i 0) ≡ false → is_passed_over (drop i line) ≡ (get_or line i 0 == 35)
unfolding is_passed_over
blank_stop line i inside other = rw (drop-cons line i 0 inside, other) refl

pub blank_end : (line : List ℕ) (i : ℕ) → length line ≤ i → is_passed_over (drop i line) ≡ true
unfolding is_passed_over
blank_end line i past = rw (drop_all i line past) refl

pub ruleset blanks = (blank_step, blank_stop, blank_end)
