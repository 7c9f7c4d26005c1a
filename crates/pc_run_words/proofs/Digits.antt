-- A word of digits that is no number of 32 bits spells none in a range of them.
use Rattle.std.proofs.Common.{◌≡◌, ℕ, ◌<◌, ◌^◌, Bool, true, false, List, [], ◌∷◌, None, Err, refl, sym, ap, ◌∙◌, arith}
use Rattle.std.specs.Prelude.{◌&&◌, nat_lt, nat_le, length}
use Rattle.std.specs.Char.{is_ascii_digit}
use Rattle.std.specs.List.{list_all}
use Rattle.std.specs.Str.{all_ascii_digits}
use Rattle.std.specs.Str.Parse.{digits_value, ParsesUnsigned}
use Rattle.std.proofs.lemmas.Str.Parse.{numerals_by_value, tells_all_ascii_digits, parse_digits}
use Rattle.pc_run_words.specs.Words.{number_of}

same_test : (word : List ℕ) → list_all is_ascii_digit word ≡ all_ascii_digits word
same_test [] = refl
same_test (byte ∷ rest) = ap (λ test. is_ascii_digit byte && test) (same_test rest)

too_large : (n most : ℕ) → most < 2 ^ 32 → ¬ (n < 2 ^ 32) → nat_le n most ≡ false
too_large n most small large = grind (arith, small, large)

last_no : (a b c d : Bool) → d ≡ false → (a && b && c && d) ≡ false
last_no true true true d none = none
last_no true true false d none = refl
last_no true false c d none = refl
last_no false b c d none = refl

pub no_number : {E : Type 0} (least most : ℕ) (word : List ℕ) (e : E) → most < 2 ^ 32 → list_all is_ascii_digit word ≡ true → ParsesUnsigned 32 10 word (Err e)
    → number_of least most word ≡ None
unfolding number_of
no_number least most [] e small digits parses = refl
no_number least most (byte ∷ rest) e small digits parses =
    let none = parse_digits (numerals_by_value (λ (ds : List ℕ). all_ascii_digits ds ≡ true) tells_all_ascii_digits) 32 (byte ∷ rest) (Err e) parses (sym (same_test (byte ∷ rest)) ∙ digits) in
    let large = too_large (digits_value 10 (byte ∷ rest)) most small (λ fits. none (omega arith, fits)) in
    rw (last_no (nat_lt 0 (length (byte ∷ rest))) (list_all is_ascii_digit (byte ∷ rest)) (nat_le least (digits_value 10 (byte ∷ rest))) (nat_le (digits_value 10 (byte ∷ rest)) most) large) refl
