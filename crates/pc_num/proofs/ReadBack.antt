-- The text of a number is read back as that number.
use Rattle.std.proofs.Common.{◌≡◌, ◌≤◌, ◌<◌, inl, inr, ℕ, zero, suc, ◌+◌, ◌-◌, ◌*◌, ◌/◌, ◌%◌, ◌^◌, List, [], ◌∷◌, ◌++◌, length, arith, refl, ap, ◌∙◌, Bool, true, false, length-append}
use Rattle.std.specs.Prelude.{ℤ, pos, negsuc, unsigned_abs, decimal, Some, Result, Ok, ◌==◌, nat_le}
use Rattle.std.specs.Char.{is_ascii_digit}
use Rattle.std.proofs.lemmas.Bool.{and_parts, cases_Bool, eq-eqb, le-leb, le-ltb, leb-true, lt-ltb, ne_eqb}
use Rattle.std.proofs.lemmas.Fmt.{decimal_by_steps_wide}
use Rattle.std.proofs.lemmas.List.{drop_all}
use Rattle.std.proofs.lemmas.Nat.{div-add-mod'}
use Rattle.std.proofs.Math.Arith.{mod-mul}
use Rattle.std.proofs.Math.Nat.{div-le_self, pow-suc}
use Rattle.std.proofs.Math.Seq.{drop-append_seam, take-append_seam}
use Rattle.pc_num.specs.declared.scaled.NumFault.{NumFault}
use Rattle.pc_num.specs.Put.{decimals_of, fraction_text, scaled_text, size_text}
use Rattle.pc_num.specs.Scaled.{are_digits, decimals_at, digits_len, greatest_size, has_decimals_past, number_after, padded, scaled_of, scaled_parts, scaled_size, scaled_unsigned, signed, starts_with_minus, without_sign}
use Rattle.pc_num.proofs.Decimals.{power_positive}
use Rattle.pc_num.proofs.Numbers.{number_after-append}

pub digit_is : (byte : ℕ) → 48 ≤ byte → byte ≤ 57 → is_ascii_digit byte ≡ true
digit_is byte low high = rw (le-leb 48 byte low, le-leb byte 57 high) refl

digit_low : (byte : ℕ) → is_ascii_digit byte ≡ true → 48 ≤ byte
digit_low byte h =
    let p : (nat_le 48 byte ≡ true) × (nat_le byte 57 ≡ true) = and_parts (nat_le 48 byte) (nat_le byte 57) h in
    leb-true 48 byte p.0

-- digits and what follows them
pub digits_len-append : (digits rest : List ℕ) → digits_len digits ≡ length digits → digits_len (digits ++ rest) ≡ length digits + digits_len rest
unfolding digits_len
digits_len-append [] rest h = omega arith
digits_len-append (digit ∷ digits) rest h =
    elim (cases_Bool (is_ascii_digit digit)) [
      | inl is ↦
          let shorter : digits_len digits ≡ length digits = let e = rw is at h in omega (arith, e) in
          rw is (omega (arith, digits_len-append digits rest shorter))
      | inr other ↦ absurd (omega (arith, rw other at h))
    ]

-- the digits of a number
record AreDigitsOf (n : ℕ) (text : List ℕ) : Type 0 where
  not_empty : 0 < length text
  all : digits_len text ≡ length text
  value : number_after 0 text ≡ n

one_digit : (n : ℕ) → n < 10 → AreDigitsOf n ((48 + n) ∷ [])
unfolding digits_len number_after
one_digit n small = record {
  not_empty = omega arith;
  all = rw (digit_is (48 + n) (omega arith) (omega arith)) refl;
  value = omega arith;
}

last_digit : (text : List ℕ) (digit : ℕ) → number_after 0 (text ++ ((48 + digit) ∷ [])) ≡ 10 * number_after 0 text + digit
unfolding number_after
last_digit text digit = number_after-append 0 text ((48 + digit) ∷ []) ∙ omega arith

more_digits : (n : ℕ) (text : List ℕ) → 10 ≤ n → AreDigitsOf (n / 10) text → AreDigitsOf n (text ++ ((48 + n % 10) ∷ []))
more_digits n text large before =
    let last = one_digit (n % 10) (omega arith) in record {
      not_empty = omega (arith, length-append text ((48 + n % 10) ∷ []));
      all = omega (arith, length-append text ((48 + n % 10) ∷ []), digits_len-append text ((48 + n % 10) ∷ []) before.all, last.all);
      value = omega (arith, last_digit text (n % 10), before.value);
    }

digits_of_decimal : (n : ℕ) → n < 10 ^ 64 → AreDigitsOf n (decimal n)
digits_of_decimal n small = decimal_by_steps_wide AreDigitsOf one_digit more_digits n small

pub decimals_length : (k n : ℕ) → length (decimals_of k n) ≡ k
unfolding decimals_of
decimals_length zero n = refl
decimals_length (suc k) n = omega (arith, decimals_length k n)

pub decimals_digits : (k n : ℕ) → digits_len (decimals_of k n) ≡ k
unfolding decimals_of digits_len
decimals_digits zero n = refl
decimals_digits (suc k) n =
    let digit = 48 + n / 10 ^ k % 10 in
    let is : is_ascii_digit (48 + n / 10 ^ k % 10) ≡ true = digit_is (48 + n / 10 ^ k % 10) (omega arith) (omega arith) in
    rw is (omega (arith, decimals_digits k n))

decimals_step : (m power digit rest whole : ℕ) → whole ≡ digit * power + rest → (10 * m + digit) * power + rest ≡ m * (power * 10) + whole
decimals_step m power digit rest whole h = omega (arith, h)

-- the last digits of a number, of which the first stands before the others
digits_split : (n power : ℕ) → 0 < power → n % (power * 10) ≡ n / power % 10 * power + n % power
digits_split n power h =
    let turned : power * 10 ≡ 10 * power = omega arith in
    rw turned (mod-mul n (omega arith) h)

digit_after : (m digit : ℕ) (rest : List ℕ) → number_after m ((48 + digit) ∷ rest) ≡ number_after (10 * m + digit) rest
unfolding number_after
digit_after m digit rest = let e : 48 + digit - 48 ≡ digit = omega arith in ap (λ (d : ℕ). number_after (10 * m + d) rest) e

decimals_value : (k m n : ℕ) → number_after m (decimals_of k n) ≡ m * 10 ^ k + n % 10 ^ k
unfolding decimals_of number_after
decimals_value zero m n = omega arith
decimals_value (suc k) m n =
    let split = digits_split n (10 ^ k) (power_positive k) in
    digit_after m (n / 10 ^ k % 10) (decimals_of k n)
    ∙ decimals_value k (10 * m + n / 10 ^ k % 10) n
    ∙ rw (pow-suc 10 k) (decimals_step m (10 ^ k) (n / 10 ^ k % 10) (n % 10 ^ k) (n % (10 ^ k * 10)) split)

decimals_padded : (k : ℕ) (n : ℕ) → padded k (decimals_of k n) ≡ decimals_of k n
unfolding decimals_of padded
decimals_padded zero n = refl
decimals_padded (suc k) n = ap (λ (digits : List ℕ). (48 + n / 10 ^ k % 10) ∷ digits) (decimals_padded k n)

decimals_within : (k n : ℕ) → has_decimals_past k (decimals_of k n) ≡ false
decimals_within k n = rw (drop_all k (decimals_of k n) (omega (arith, decimals_length k n))) refl

are_decimals : (k n : ℕ) → are_digits (decimals_of (suc k) n) ≡ true
unfolding are_digits
are_decimals k n = rw (decimals_digits (suc k) n, decimals_length (suc k) n, lt-ltb 0 (suc k) (omega arith), eq-eqb (suc k) (suc k) refl) refl

pub decimals_after : (decimals : List ℕ) → are_digits decimals ≡ true → decimals_at (46 ∷ decimals) ≡ Some decimals
decimals_after decimals h = rw h refl

fraction_decimals : (k n : ℕ) → decimals_at (fraction_text k n) ≡ Some (decimals_of k n)
unfolding decimals_of
fraction_decimals zero n = refl
fraction_decimals (suc k) n = decimals_after (decimals_of (suc k) n) (are_decimals k n)

fraction_digits : (k n : ℕ) → digits_len (fraction_text k n) ≡ 0
unfolding digits_len
fraction_digits zero n = refl
fraction_digits (suc k) n = refl

pub first_digit : (digit : ℕ) (digits : List ℕ) → digits_len (digit ∷ digits) ≡ length (digit ∷ digits) → 48 ≤ digit
unfolding digits_len
first_digit digit digits h =
    elim (cases_Bool (is_ascii_digit digit)) [ inl is ↦ digit_low digit is | inr other ↦ absurd (omega (arith, rw other at h)) ]

no_sign : (digits rest : List ℕ) → 0 < length digits → digits_len digits ≡ length digits → (starts_with_minus (digits ++ rest) ≡ false) × (without_sign (digits ++ rest) ≡ digits ++ rest)
no_sign [] rest h all = absurd (omega arith)
no_sign (digit ∷ digits) rest h all =
    let low = first_digit digit digits all in
    let minus : (digit == 45) ≡ false = ne_eqb digit 45 (λ e. omega (arith, e)) in
    let plus : (digit == 43) ≡ false = ne_eqb digit 43 (λ e. omega (arith, e)) in
    (minus, rw (minus, plus) refl)

pub unsigned_back : (scale : ℕ) (minus : Bool) (digits rest decimals : List ℕ) → 0 < length digits → digits_len digits ≡ length digits → digits_len rest ≡ 0 → decimals_at rest ≡ Some decimals → scaled_unsigned scale minus (digits ++ rest) ≡ scaled_parts scale minus digits (Some decimals)
unsigned_back scale minus digits rest decimals some all after found =
    let size : digits_len (digits ++ rest) ≡ length digits = omega (arith, digits_len-append digits rest all) in
    let not_empty : (length digits == 0) ≡ false = ne_eqb (length digits) 0 (λ e. omega (arith, e)) in
    rw (size, not_empty, take-append_seam digits rest, drop-append_seam digits rest, found) refl

pub parts_back : (scale : ℕ) (minus : Bool) (digits decimals : List ℕ) (size : ℕ) → has_decimals_past scale decimals ≡ false → scaled_size digits decimals scale ≡ size → size ≤ 10 ^ 15 → scaled_parts scale minus digits (Some decimals) ≡ Ok (signed minus size)
parts_back scale minus digits decimals size within e small = rw (within, e, le-ltb greatest_size size small) refl

size_value : (scale size : ℕ) (digits : List ℕ) → number_after 0 digits ≡ size / 10 ^ scale → scaled_size digits (decimals_of scale size) scale ≡ size
unfolding scaled_size
size_value scale size digits h =
    rw (number_after-append 0 digits (padded scale (decimals_of scale size)), h, decimals_padded scale size, decimals_value scale (size / 10 ^ scale) size) (div-add-mod' size (10 ^ scale))

size_back : (minus : Bool) (scale size : ℕ) → size ≤ 10 ^ 15 → scaled_unsigned scale minus (size_text scale size) ≡ Ok (signed minus size)
size_back minus scale size small =
    let digits = digits_of_decimal (size / 10 ^ scale) (omega (arith, div-le_self size (10 ^ scale))) in
    unsigned_back scale minus (decimal (size / 10 ^ scale)) (fraction_text scale size) (decimals_of scale size) digits.not_empty digits.all (fraction_digits scale size) (fraction_decimals scale size)
    ∙ parts_back scale minus (decimal (size / 10 ^ scale)) (decimals_of scale size) size (decimals_within scale size) (size_value scale size (decimal (size / 10 ^ scale)) digits.value) small

size_sign : (scale size : ℕ) → size ≤ 10 ^ 15 → (starts_with_minus (size_text scale size) ≡ false) × (without_sign (size_text scale size) ≡ size_text scale size)
size_sign scale size small =
    let digits = digits_of_decimal (size / 10 ^ scale) (omega (arith, div-le_self size (10 ^ scale))) in
    no_sign (decimal (size / 10 ^ scale)) (fraction_text scale size) digits.not_empty digits.all

positive_back : (scale : ℕ) (text : List ℕ) (number : Result ℤ NumFault) → (starts_with_minus text ≡ false) × (without_sign text ≡ text) → scaled_unsigned scale false text ≡ number → scaled_unsigned scale (starts_with_minus text) (without_sign text) ≡ number
positive_back scale text number sign h = rw (sign.0, sign.1) h

pub reads_back : (value : ℤ) (scale : ℕ) → unsigned_abs value ≤ 10 ^ 15 → scaled_of scale (scaled_text value scale) ≡ Ok value
unfolding scaled_of scaled_text
reads_back (pos size) scale small = positive_back scale (size_text scale size) (Ok (pos size)) (size_sign scale size small) (size_back false scale size small)
reads_back (negsuc below) scale small = size_back true scale (suc below) small
