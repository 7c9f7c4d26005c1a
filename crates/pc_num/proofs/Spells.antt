-- A number that is read is the one that its text spells.
use Rattle.std.proofs.Common.{◌≡◌, ◌≤◌, ◌<◌, inl, inr, ℕ, zero, suc, ◌+◌, ◌-◌, ◌*◌, ◌^◌, List, [], ◌∷◌, ◌++◌, length, take, drop, arith, refl, ap, sym, subst, ◌∙◌, Bool, true, false, get_or}
use Rattle.std.specs.Prelude.{ℤ, unsigned_abs, All, Option, Some, None, Ok, Err, ◌==◌, ◌&&◌, not, nat_lt, nat_le, if◌then◌else◌}
use Rattle.std.specs.List.{list_any}
use Rattle.std.specs.Char.{is_ascii_digit}
use Rattle.std.proofs.lemmas.Bool.{and_parts, cases_Bool, eqb-true, leb-true, ltb-true, or_parts}
use Rattle.std.proofs.lemmas.List.{get_or-take, length-take-le, take-append-drop}
use Rattle.std.proofs.lemmas.List.Elements.{All-nil}
use Rattle.std.proofs.Math.Nat.{pow-suc}
use Rattle.pc_num.specs.declared.scaled.NumFault.TheVariants.{NotANumber, TooManyDecimals, PastLimit}
use Rattle.pc_num.specs.Scaled.{are_digits, decimals_at, digits_len, greatest_size, has_decimals_past, number_after, padded, scaled_of, scaled_parts, scaled_size, scaled_unsigned, signed, starts_with_minus, without_sign}
use Rattle.pc_num.specs.Spelling.{IsDigit, Spells, point_text}
use Rattle.pc_num.proofs.Numbers.{number_after-append}
use Rattle.pc_num.proofs.Signed.{unsigned_abs-signed}

is_digit : (byte : ℕ) → is_ascii_digit byte ≡ true → IsDigit byte
is_digit byte h =
    let p : (nat_le 48 byte ≡ true) × (nat_le byte 57 ≡ true) = and_parts (nat_le 48 byte) (nat_le byte 57) h in
    (leb-true 48 byte p.0, leb-true byte 57 p.1)

digit_below : (text : List ℕ) (k : ℕ) (d : ℕ) → k < digits_len text → IsDigit (get_or text k d)
unfolding digits_len
digit_below [] k d h = grind arith
digit_below (byte ∷ text) zero d h =
    elim (cases_Bool (is_ascii_digit byte)) [ inl digit ↦ is_digit byte digit | inr other ↦ absurd (omega (arith, rw other at h)) ]
digit_below (byte ∷ text) (suc k) d h =
    elim (cases_Bool (is_ascii_digit byte)) [
      | inl digit ↦ let shorter : k < digits_len text = omega (arith, rw digit at h) in digit_below text k d shorter
      | inr other ↦ absurd (omega (arith, rw other at h))
    ]

digits_within : (text : List ℕ) → digits_len text ≤ length text
unfolding digits_len
digits_within [] = omega arith
digits_within (byte ∷ text) = grind (arith, digits_within text)

taken_length : (text : List ℕ) → length (take (digits_len text) text) ≡ digits_len text
taken_length text = length-take-le (digits_len text) text (digits_within text)

taken_digits : (text : List ℕ) → All IsDigit (take (digits_len text) text)
taken_digits text = λ k d h.
    let below : k < digits_len text = omega (arith, taken_length text) in
    rw (get_or-take (digits_len text) text k d below) (digit_below text k d below)

all_digits : (text : List ℕ) → are_digits text ≡ true → (0 < length text) × All IsDigit text
unfolding are_digits
all_digits text h =
    let p : (nat_lt 0 (digits_len text) ≡ true) × ((digits_len text == length text) ≡ true) = and_parts (nat_lt 0 (digits_len text)) (digits_len text == length text) h in
    let e : digits_len text ≡ length text = eqb-true (digits_len text) (length text) p.1 in
    let some : 0 < digits_len text = ltb-true 0 (digits_len text) p.0 in
    (omega arith, λ k d below. digit_below text k d (omega arith))

after_point : (byte : ℕ) (rest decimals : List ℕ) → byte ≡ 46 → rest ≡ decimals → (0 < length rest) × All IsDigit rest → (byte ∷ rest ≡ point_text decimals) × All IsDigit decimals
after_point byte rest [] point e digits = absurd (omega (arith, ap length e, digits.0))
after_point byte rest (digit ∷ decimals) point e digits = (cc, subst (λ (xs : List ℕ). All IsDigit xs) e digits.1)

decimals_found : (rest decimals : List ℕ) → decimals_at rest ≡ Some decimals → (rest ≡ point_text decimals) × All IsDigit decimals
decimals_found [] [] h = (refl, All-nil IsDigit)
decimals_found [] (digit ∷ decimals) h = cc
decimals_found (byte ∷ rest) decimals h =
    elim (cases_Bool ((byte == 46) && are_digits rest)) [
      | inl is ↦
          let p : ((byte == 46) ≡ true) × (are_digits rest ≡ true) = and_parts (byte == 46) (are_digits rest) is in
          let e : rest ≡ decimals = let found : Some rest ≡ Some decimals = rw is at h in cc in
          after_point byte rest decimals (eqb-true byte 46 p.0) e (all_digits rest p.1)
      | inr other ↦ let none : None ≡ Some decimals = rw other at h in cc
    ]

zeros_step : (n digit power later : ℕ) → digit ≡ 0 → later ≡ (10 * n + digit) * power → later ≡ n * (power * 10)
zeros_step n digit power later zero_digit h = omega (arith, rw zero_digit at h)

zeros : (n : ℕ) (digits : List ℕ) → list_any (λ digit. not (digit == 48)) digits ≡ false → number_after n digits ≡ n * 10 ^ length digits
unfolding number_after
zeros n [] h = omega arith
zeros n (digit ∷ digits) h =
    let p : (not (digit == 48) ≡ false) × (list_any (λ digit'. not (digit' == 48)) digits ≡ false) = or_parts (not (digit == 48)) (list_any (λ digit'. not (digit' == 48)) digits) h in
    let zero_digit : digit - 48 ≡ 0 = grind (arith, p.0) in
    let later : number_after (10 * n + (digit - 48)) digits ≡ (10 * n + (digit - 48)) * 10 ^ length digits = zeros (10 * n + (digit - 48)) digits p.1 in
    rw (pow-suc 10 (length digits)) (zeros_step n (digit - 48) (10 ^ length digits) (number_after (10 * n + (digit - 48)) digits) zero_digit later)

no_decimals : (k : ℕ) → has_decimals_past k [] ≡ false
no_decimals zero = refl
no_decimals (suc k) = refl

scaled_value : (scale n : ℕ) (decimals : List ℕ) → has_decimals_past scale decimals ≡ false → number_after n (padded scale decimals) * 10 ^ length decimals ≡ number_after n decimals * 10 ^ scale
unfolding number_after padded
scaled_value zero n decimals h = omega (arith, zeros n decimals h)
scaled_value (suc k) n [] h =
    let later : number_after (10 * n + 0) (padded k []) * 1 ≡ (10 * n + 0) * 10 ^ k = scaled_value k (10 * n + 0) [] (no_decimals k) in
    rw (pow-suc 10 k) (omega (arith, later))
scaled_value (suc k) n (digit ∷ digits) h =
    let later : number_after (10 * n + (digit - 48)) (padded k digits) * 10 ^ length digits ≡ number_after (10 * n + (digit - 48)) digits * 10 ^ k = scaled_value k (10 * n + (digit - 48)) digits h in
    rw (pow-suc 10 (length digits), pow-suc 10 k) (omega (arith, later))

size_read : (scale : ℕ) (minus : Bool) (whole decimals : List ℕ) (number : ℤ) → (if nat_lt greatest_size (scaled_size whole decimals scale) then Err PastLimit else Ok (signed minus (scaled_size whole decimals scale))) ≡ Ok number → number ≡ signed minus (scaled_size whole decimals scale)
size_read scale minus whole decimals number h =
    elim (cases_Bool (nat_lt greatest_size (scaled_size whole decimals scale))) [
      | inl past ↦ let e : Err PastLimit ≡ Ok number = rw past at h in cc
      | inr small ↦ let e : Ok (signed minus (scaled_size whole decimals scale)) ≡ Ok number = rw small at h in cc
    ]

parts_read : (scale : ℕ) (minus : Bool) (whole : List ℕ) (found : Option (List ℕ)) (number : ℤ) → scaled_parts scale minus whole found ≡ Ok number → (decimals : List ℕ) × (found ≡ Some decimals) × (has_decimals_past scale decimals ≡ false) × (number ≡ signed minus (scaled_size whole decimals scale))
parts_read scale minus whole None number h = cc
parts_read scale minus whole (Some decimals) number h =
    elim (cases_Bool (has_decimals_past scale decimals)) [
      | inl past ↦ let e : Err TooManyDecimals ≡ Ok number = rw past at h in cc
      | inr fits ↦ (decimals, refl, fits, size_read scale minus whole decimals number (rw fits at h))
    ]

-- what a text without its sign was read as
unsigned_read : (scale : ℕ) (minus : Bool) (text : List ℕ) (number : ℤ) → scaled_unsigned scale minus text ≡ Ok number → (0 < digits_len text) × (scaled_parts scale minus (take (digits_len text) text) (decimals_at (drop (digits_len text) text)) ≡ Ok number)
unsigned_read scale minus text number h =
    elim (cases_Bool (digits_len text == 0)) [
      | inl none ↦ let e : Err NotANumber ≡ Ok number = rw none at h in cc
      | inr some ↦ (grind (arith, some), rw some at h)
    ]

size_value : (whole decimals : List ℕ) (scale : ℕ) → has_decimals_past scale decimals ≡ false → scaled_size whole decimals scale * 10 ^ length decimals ≡ number_after 0 (whole ++ decimals) * 10 ^ scale
unfolding scaled_size
size_value whole decimals scale h = rw (number_after-append 0 whole (padded scale decimals), number_after-append 0 whole decimals) (scaled_value scale (number_after 0 whole) decimals h)

pub spells : (scale : ℕ) (text : List ℕ) (number : ℤ) → scaled_of scale text ≡ Ok number → Spells text scale number
unfolding scaled_of
spells scale text number h =
    let unsigned = without_sign text in
    let minus = starts_with_minus text in
    let whole = take (digits_len unsigned) unsigned in
    let rest = drop (digits_len unsigned) unsigned in
    let read = unsigned_read scale minus unsigned number h in
    let parts = parts_read scale minus whole (decimals_at rest) number read.1 in
    let found = decimals_found rest parts.0 parts.1 in
    let size : unsigned_abs number ≡ scaled_size whole parts.0 scale = ap unsigned_abs parts.3 ∙ unsigned_abs-signed minus (scaled_size whole parts.0 scale) in
    record {
      whole = whole;
      decimals = parts.0;
      form = rw (← found.0) (sym (take-append-drop (digits_len unsigned) unsigned));
      not_empty = omega (arith, taken_length unsigned, read.0);
      whole_digits = taken_digits unsigned;
      decimal_digits = found.1;
      value = rw size (size_value whole parts.0 scale parts.2);
      sign = rw size parts.3;
    }
