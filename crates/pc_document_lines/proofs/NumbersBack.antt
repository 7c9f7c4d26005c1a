-- The text of a number is read as that number at every scale, and of what bytes it is.
use Rattle.std.proofs.Common.{add-one, drop, drop-cons, get_or, length, ◌≡◌, ◌≤◌, ◌<◌, inl, inr, ℕ, zero, suc, ◌+◌, ◌-◌, ◌*◌, ◌/◌, ◌%◌, ◌^◌, List, [], ◌∷◌, ◌++◌, arith, refl, ap, sym, ◌∙◌, true, false, append_assoc}
use Rattle.std.specs.Prelude.{ℤ, pos, negsuc, unsigned_abs, decimal}
use Rattle.std.specs.Char.{is_ascii_digit}
use Rattle.std.specs.List.{All}
use Rattle.std.proofs.lemmas.Bool.{cases_Bool, ne_eqb}
use Rattle.std.proofs.lemmas.Fmt.{decimal_by_steps_wide}
use Rattle.std.proofs.lemmas.List.{drop_all}
use Rattle.std.proofs.lemmas.List.Elements.{All-append, All-cons, All-nil}
use Rattle.std.proofs.lemmas.Nat.{div-add-mod'}
use Rattle.std.proofs.Math.Arith.{mod-mul}
use Rattle.std.proofs.Math.Nat.{div-le_self}
use Rattle.pc_num.specs.Put.{decimals_of, fraction_text, scaled_text, size_text}
use Rattle.pc_num.specs.Scaled.{signed, starts_with_minus}
use Rattle.pc_num.proofs.Decimals.{power_positive}
use Rattle.pc_num.proofs.ReadBack.{digit_is}
use Rattle.pc_document_lines.specs.Numbers.{digits_value, likely_number}

-- digits after others
digits_value-append : (a b : List ℕ) (n : ℕ) → digits_value n (a ++ b) ≡ digits_value (digits_value n a) b
unfolding digits_value
digits_value-append [] b n = refl
digits_value-append (byte ∷ a) b n =
    elim (cases_Bool (is_ascii_digit byte)) [
      | inl is ↦ rw is (digits_value-append a b (10 * n + (byte - 48)))
      | inr other ↦ rw other (digits_value-append a b n)
    ]

-- a digit at the front goes into the number before it
digit_after : (n digit : ℕ) (rest : List ℕ) → digit < 10 → digits_value n ((48 + digit) ∷ rest) ≡ digits_value (10 * n + digit) rest
unfolding digits_value
digit_after n digit rest small =
    let e : 48 + digit - 48 ≡ digit = omega arith in
    rw (digit_is (48 + digit) (omega arith) (omega arith), e) refl

-- ---- the digits of a whole number

-- a byte that is no space, no line feed and no slash
abbrev pub IsNumberByte : ℕ → Type 0
IsNumberByte byte = (45 ≤ byte) × (byte ≡ 47 → ⊥)

-- digits are such bytes
pub digit_byte : (digit : ℕ) → IsNumberByte (48 + digit)
digit_byte digit = (omega arith, λ e. omega (arith, e))

-- a text of digits, with the number that it spells
record AreDigitsOf (n : ℕ) (text : List ℕ) : Type 0 where
  value : digits_value 0 text ≡ n
  bytes : All IsNumberByte text
  unsigned : (rest : List ℕ) → starts_with_minus (text ++ rest) ≡ false

-- one digit spells itself
one_digit : (n : ℕ) → n < 10 → AreDigitsOf n ((48 + n) ∷ [])
unfolding digits_value
one_digit n small = record {
  value = digit_after 0 n [] small ∙ omega arith;
  bytes = All-cons IsNumberByte (48 + n) [] (digit_byte n) (All-nil IsNumberByte);
  unsigned = λ rest. ne_eqb (48 + n) 45 (λ e. omega (arith, e));
}

-- a last digit after the number of those before it
last_value : (n before : ℕ) → before ≡ n / 10 → digits_value before ((48 + n % 10) ∷ []) ≡ n
unfolding digits_value
last_value n before e = digit_after before (n % 10) [] (omega arith) ∙ omega (arith, e)

-- a last digit after the digits of a tenth
more_digits : (n : ℕ) (text : List ℕ) → 10 ≤ n → AreDigitsOf (n / 10) text → AreDigitsOf n (text ++ ((48 + n % 10) ∷ []))
more_digits n text large before =
    let last = one_digit (n % 10) (omega arith) in record {
      value = digits_value-append text ((48 + n % 10) ∷ []) 0 ∙ last_value n (digits_value 0 text) before.value;
      bytes = All-append IsNumberByte text ((48 + n % 10) ∷ []) before.bytes last.bytes;
      unsigned = λ rest. rw (append_assoc text ((48 + n % 10) ∷ []) rest) (before.unsigned ((48 + n % 10) ∷ rest));
    }

-- the decimal text of a number spells it
digits_of_decimal : (n : ℕ) → n < 10 ^ 64 → AreDigitsOf n (decimal n)
digits_of_decimal n small = decimal_by_steps_wide AreDigitsOf one_digit more_digits n small

-- ---- the decimals

-- the sum of a digit step
decimals_step : (m power digit rest whole : ℕ) → whole ≡ digit * power + rest → (10 * m + digit) * power + rest ≡ m * (power * 10) + whole
decimals_step m power digit rest whole h = omega (arith, h)

-- decimals after a number
decimals_value : (k m n : ℕ) → digits_value m (decimals_of k n) ≡ m * 10 ^ k + n % 10 ^ k
unfolding decimals_of digits_value
decimals_value zero m n = omega arith
decimals_value (suc k) m n =
    let power : 10 ^ suc k ≡ 10 ^ k * 10 = omega arith in
    let turned : 10 ^ k * 10 ≡ 10 * 10 ^ k = omega arith in
    let split : n % (10 ^ k * 10) ≡ n / 10 ^ k % 10 * 10 ^ k + n % 10 ^ k = rw turned (mod-mul n (omega arith) (power_positive k)) in
    digit_after m (n / 10 ^ k % 10) (decimals_of k n) (omega arith)
    ∙ decimals_value k (10 * m + n / 10 ^ k % 10) n
    ∙ rw power (decimals_step m (10 ^ k) (n / 10 ^ k % 10) (n % 10 ^ k) (n % (10 ^ k * 10)) split)

-- decimals are digits
decimals_bytes : (k n : ℕ) → All IsNumberByte (decimals_of k n)
unfolding decimals_of
decimals_bytes zero n = All-nil IsNumberByte
decimals_bytes (suc k) n = All-cons IsNumberByte (48 + n / 10 ^ k % 10) (decimals_of k n) (digit_byte (n / 10 ^ k % 10)) (decimals_bytes k n)

-- a point between the digits changes nothing
fraction_value : (k m n : ℕ) → digits_value m (fraction_text k n) ≡ m * 10 ^ k + n % 10 ^ k
unfolding digits_value
fraction_value zero m n = omega arith
fraction_value (suc k) m n = decimals_value (suc k) m n

-- a point and decimals
fraction_bytes : (k n : ℕ) → All IsNumberByte (fraction_text k n)
fraction_bytes zero n = All-nil IsNumberByte
fraction_bytes (suc k) n = All-cons IsNumberByte 46 (decimals_of (suc k) n) (omega arith, λ e. omega (arith, e)) (decimals_bytes (suc k) n)

-- ---- numbers without a sign, and with one

-- the whole part is digits
size_digits : (k n : ℕ) → n < 10 ^ 64 → AreDigitsOf (n / 10 ^ k) (decimal (n / 10 ^ k))
size_digits k n small = digits_of_decimal (n / 10 ^ k) (omega (arith, div-le_self n (10 ^ k)))

-- the digits of a number without its sign spell it
size_value : (k n : ℕ) → n < 10 ^ 64 → digits_value 0 (size_text k n) ≡ n
size_value k n small =
    digits_value-append (decimal (n / 10 ^ k)) (fraction_text k n) 0
    ∙ ap (λ (m : ℕ). digits_value m (fraction_text k n)) (size_digits k n small).value
    ∙ fraction_value k (n / 10 ^ k) n
    ∙ div-add-mod' n (10 ^ k)

-- and are such bytes
size_bytes : (k n : ℕ) → n < 10 ^ 64 → All IsNumberByte (size_text k n)
size_bytes k n small = All-append IsNumberByte (decimal (n / 10 ^ k)) (fraction_text k n) (size_digits k n small).bytes (fraction_bytes k n)

-- The text of a number at any scale is read as that number.
pub numbers_again : (value : ℤ) (scale : ℕ) → unsigned_abs value < 10 ^ 64 → likely_number (scaled_text value scale) ≡ value
unfolding likely_number scaled_text digits_value
numbers_again (pos n) scale small = rw ((size_digits scale n small).unsigned (fraction_text scale n), size_value scale n small) refl
numbers_again (negsuc n) scale small = minus (digits_value 0 (size_text scale (suc n))) (size_value scale (suc n) small)
  where
    minus : (m : ℕ) → m ≡ suc n → signed true m ≡ negsuc n
    minus m e = rw e refl

-- The text of a number has no space, no line feed and no slash.
pub number_bytes : (value : ℤ) (scale : ℕ) → unsigned_abs value < 10 ^ 64 → All IsNumberByte (scaled_text value scale)
unfolding scaled_text
number_bytes (pos n) scale small = size_bytes scale n small
number_bytes (negsuc n) scale small = All-cons IsNumberByte 45 (size_text scale (suc n)) (omega arith, λ e. omega (arith, e)) (size_bytes scale (suc n) small)

-- ---- the digits, as far as a loop has come

-- further digits make no number less
digits_value-least : (text : List ℕ) (n : ℕ) → n ≤ digits_value n text
unfolding digits_value
digits_value-least [] n = omega arith
digits_value-least (byte ∷ text) n =
    elim (cases_Bool (is_ascii_digit byte)) [
      | inl is ↦ rw is (omega (arith, digits_value-least text (10 * n + (byte - 48))))
      | inr other ↦ rw other (digits_value-least text n)
    ]

-- the first byte alone, and then the others
digits_value-cons : (n byte : ℕ) (rest : List ℕ) → digits_value n (byte ∷ rest) ≡ digits_value (digits_value n (byte ∷ [])) rest
digits_value-cons n byte rest = digits_value-append (byte ∷ []) rest n

-- the byte at a place goes into what was read before it
pub digits_more : (text : List ℕ) (i n : ℕ) → i < length text → digits_value (digits_value n (get_or text i 0 ∷ [])) (drop (i + 1) text) ≡ digits_value n (drop i text)
digits_more text i n inside = rw (add-one, drop-cons text i 0) (sym (digits_value-cons n (get_or text i 0) (drop (suc i) text)))

-- nothing is left at the end
pub digits_end : (text : List ℕ) (i n : ℕ) → length text ≤ i → digits_value n (drop i text) ≡ n
unfolding digits_value
digits_end text i n past = rw (drop_all i text past) refl

-- what is too great at a place is so at the end
pub digits_past : (text : List ℕ) (i n most : ℕ) → i < length text → most ≤ digits_value n (get_or text i 0 ∷ []) → most ≤ digits_value n (drop i text)
digits_past text i n most inside past =
    let least = digits_value-least (drop (i + 1) text) (digits_value n (get_or text i 0 ∷ [])) in
    let same = digits_more text i n inside in
    omega (arith, past, least, same)

pub ruleset digits_steps = (digits_more, digits_end, digits_past)
