-- The text of a number in units of its last place is a number of the language.
use Rattle.std.proofs.Common.{◌≡◌, ℕ, zero, suc, ◌+◌, ◌<◌, ◌≤◌, ◌/◌, ◌%◌, ◌^◌, ◌==◌, Bool, true, false, List, [], ◌∷◌, ◌++◌, length, refl, sym, ◌∙◌, arith, length-append}
use Rattle.std.specs.Prelude.{ℤ, pos, negsuc, unsigned_abs, decimal}
use Rattle.std.specs.Char.{is_ascii_digit}
use Rattle.std.specs.Fmt.{digit_glyph, digits, digits_onto}
use Rattle.std.proofs.lemmas.Bool.{lt-ltb}
use Rattle.pc_num.specs.Put.{decimals_of, fraction_text, minus_text, scaled_text}
use Rattle.pc_num.specs.Scaled.{digits_len}
use Rattle.pc_num.specs.Spelling.{point_text}
use Rattle.pc_num.proofs.ReadBack.{decimals_digits, decimals_length, digit_is}
use Rattle.pc_lang_tokens.specs.Texts.{is_number}
use Rattle.pc_lang_tokens.proofs.Numbers.{IsNumberText, IsSign, digit_step, no_digits, number_is}

glyph_is : (digit : ℕ) → digit < 10 → digit_glyph false digit ≡ 48 + digit
glyph_is digit small = rw (lt-ltb digit 10 small) refl

digit_before : (n : ℕ) (after : List ℕ) → digits_len after ≡ length after → digits_len (digit_glyph false (n % 10) ∷ after) ≡ length (digit_glyph false (n % 10) ∷ after)
digit_before n after all =
    let is : is_ascii_digit (48 + n % 10) ≡ true = digit_is (48 + n % 10) (omega arith) (omega arith) in
    rw (glyph_is (n % 10) (omega arith)) (digit_step (48 + n % 10) after is ∙ omega (arith, all))

-- from one to so many digits before others
abbrev AddsDigits : ℕ → List ℕ → List ℕ → Type 0
AddsDigits most after text = (digits_len text ≡ length text) × (length after < length text) × (length text ≤ length after + most)

digits_before : (k n : ℕ) (after : List ℕ) → digits_len after ≡ length after → AddsDigits (suc k) after (digits_onto (suc k) 10 false n after)
digits_before zero n after all = by_test (n / 10 == 0) refl
  where
    by_test : (test : Bool) → (n / 10 == 0) ≡ test → AddsDigits 1 after (digits_onto 1 10 false n after)
    by_test true e = rw e (digit_before n after all, omega arith, omega arith)
    by_test false e = rw e (digit_before n after all, omega arith, omega arith)
digits_before (suc k) n after all = by_test (n / 10 == 0) refl (digits_before k (n / 10) (digit_glyph false (n % 10) ∷ after) (digit_before n after all))
  where
    by_test : (test : Bool) → (n / 10 == 0) ≡ test → AddsDigits (suc k) (digit_glyph false (n % 10) ∷ after) (digits_onto (suc k) 10 false (n / 10) (digit_glyph false (n % 10) ∷ after)) → AddsDigits (suc (suc k)) after (digits_onto (suc (suc k)) 10 false n after)
    by_test true e more = rw e (digit_before n after all, omega arith, omega arith)
    by_test false e more = rw e (more.0, omega (arith, more.1), omega (arith, more.2))

-- any number is written with 1 to 64 digits
decimal_digits : (n : ℕ) → AddsDigits 64 [] (decimal n)
unfolding digits
decimal_digits n = digits_before 63 n [] no_digits

fraction_is_point : (k n : ℕ) → fraction_text k n ≡ point_text (decimals_of k n)
unfolding decimals_of
fraction_is_point zero n = refl
fraction_is_point (suc k) n = refl

minus_is_sign : (value : ℤ) → IsSign (minus_text value)
minus_is_sign (pos n) = tt
minus_is_sign (negsuc n) = refl

scaled_number : (value : ℤ) (scale : ℕ) → IsNumberText (scaled_text value scale)
unfolding scaled_text
scaled_number value scale =
    let digits = decimal_digits (unsigned_abs value / 10 ^ scale) in record {
      sign = minus_text value;
      whole = decimal (unsigned_abs value / 10 ^ scale);
      decimals = decimals_of scale (unsigned_abs value);
      form = rw (fraction_is_point scale (unsigned_abs value)) refl;
      signed = minus_is_sign value;
      some = omega (arith, digits.1);
      whole_digits = digits.0;
      decimal_digits = decimals_digits scale (unsigned_abs value) ∙ sym (decimals_length scale (unsigned_abs value));
    }

pub numbers_are_spelled : (value : ℤ) (scale : ℕ) → is_number (scaled_text value scale) ≡ true
numbers_are_spelled value scale = number_is (scaled_text value scale) (scaled_number value scale)

minus_short : (value : ℤ) → length (minus_text value) ≤ 1
minus_short (pos n) = omega arith
minus_short (negsuc n) = omega arith

fraction_short : (k n : ℕ) → length (fraction_text k n) ≤ k + 1
fraction_short zero n = omega arith
fraction_short (suc k) n = omega (arith, decimals_length (suc k) n)

pub scaled_short : (value : ℤ) (scale : ℕ) → scale ≤ 6 → length (scaled_text value scale) ≤ 130
unfolding scaled_text
scaled_short value scale few =
    let minus = minus_short value in
    let whole = decimal_digits (unsigned_abs value / 10 ^ scale) in
    let fraction = fraction_short scale (unsigned_abs value) in
    let inner = length-append (decimal (unsigned_abs value / 10 ^ scale)) (fraction_text scale (unsigned_abs value)) in
    rw (length-append (minus_text value) (decimal (unsigned_abs value / 10 ^ scale) ++ fraction_text scale (unsigned_abs value)))
    (omega (arith, few, minus, whole.2, fraction, inner))
