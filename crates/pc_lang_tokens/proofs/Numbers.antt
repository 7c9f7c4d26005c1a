-- What a number's text is made of, and where it ends.
use Rattle.std.proofs.Common.{◌≡◌, ℕ, ◌+◌, ◌<◌, ◌==◌, ◌&&◌, ◌||◌, Bool, true, false, List, [], ◌∷◌, ◌++◌, length, take, drop, refl, sym, ◌∙◌, arith, add-one, append_assoc, length-append}
use Rattle.std.specs.Prelude.{⊤, nat_lt}
use Rattle.std.specs.Char.{is_ascii_digit}
use Rattle.std.proofs.lemmas.Bool.{and_parts, eq-eqb, lt-ltb, ltb-true, ne_eqb, or_parts}
use Rattle.std.proofs.lemmas.Bool.Decides.{nat_tests}
use Rattle.std.proofs.lemmas.List.{append-nil, take-append-drop}
use Rattle.std.proofs.Math.Seq.{drop-append_seam, take-append-add}
use Rattle.pc_num.specs.Scaled.{digits_len}
use Rattle.pc_num.specs.Spelling.{point_text}
use Rattle.pc_num.proofs.ReadBack.{digits_len-append, first_digit}
use Rattle.pc_lang_tokens.specs.Lexing.{fraction_len, goes_on_number, number_len, sign_len, unsigned_len}
use Rattle.pc_lang_tokens.specs.Texts.{is_number}

-- nothing, or one sign
abbrev pub IsSign : List ℕ → Type 0
IsSign [] = ⊤
IsSign (byte ∷ []) = ((byte == 45) || (byte == 43)) ≡ true
IsSign (byte ∷ other ∷ rest) = ⊥

-- a sign or none, digits, and maybe a point and digits
pub record IsNumberText (text : List ℕ) : Type 0 where
  pub sign : List ℕ
  pub whole : List ℕ
  pub decimals : List ℕ
  pub form : text ≡ sign ++ (whole ++ point_text decimals)
  pub signed : IsSign sign
  pub some : 0 < length whole
  pub whole_digits : digits_len whole ≡ length whole
  pub decimal_digits : digits_len decimals ≡ length decimals

pub no_digits : digits_len [] ≡ 0
unfolding digits_len
no_digits = refl

pub digit_step : (byte : ℕ) (rest : List ℕ) → is_ascii_digit byte ≡ true → digits_len (byte ∷ rest) ≡ digits_len rest + 1
unfolding digits_len
digit_step byte rest e = rw e refl

pub digit_stop : (byte : ℕ) (rest : List ℕ) → is_ascii_digit byte ≡ false → digits_len (byte ∷ rest) ≡ 0
unfolding digits_len
digit_stop byte rest e = rw e refl

digits_end : (rest : List ℕ) → goes_on_number rest ≡ false → digits_len rest ≡ 0
digits_end [] past = no_digits
digits_end (byte ∷ rest) past = digit_stop byte rest (or_parts (is_ascii_digit byte) ((byte == 46) && nat_lt 0 (digits_len rest)) past).0

fraction_end : (rest : List ℕ) → goes_on_number rest ≡ false → fraction_len rest ≡ 0
fraction_end [] past = refl
fraction_end (byte ∷ rest) past = rw (or_parts (is_ascii_digit byte) ((byte == 46) && nat_lt 0 (digits_len rest)) past).1 refl

fraction_at : (decimals : List ℕ) (len : ℕ) → digits_len decimals ≡ len → 0 < len → fraction_len (46 ∷ decimals) ≡ len + 1
fraction_at decimals len e some = rw (e, lt-ltb 0 len some) refl

point_back : (decimals rest : List ℕ) → digits_len decimals ≡ length decimals → goes_on_number rest ≡ false → (digits_len (point_text decimals ++ rest) ≡ 0) × (fraction_len (point_text decimals ++ rest) ≡ length (point_text decimals))
point_back [] rest all past = (digits_end rest past, fraction_end rest past)
point_back (digit ∷ digits) rest all past =
    let size : digits_len ((digit ∷ digits) ++ rest) ≡ length (digit ∷ digits) = omega (arith, digits_len-append (digit ∷ digits) rest all, digits_end rest past) in
    let more : length (digit ∷ digits) + 1 ≡ length (46 ∷ digit ∷ digits) = omega arith in
    (digit_stop 46 ((digit ∷ digits) ++ rest) refl, fraction_at ((digit ∷ digits) ++ rest) (length (digit ∷ digits)) size (omega arith) ∙ more)

unsigned_back : (whole tail : List ℕ) → 0 < length whole → digits_len whole ≡ length whole → digits_len tail ≡ 0 → unsigned_len (whole ++ tail) ≡ length whole + fraction_len tail
unfolding unsigned_len
unsigned_back whole tail some all past =
    let size : digits_len (whole ++ tail) ≡ length whole = omega (arith, digits_len-append whole tail all, past) in
    let full : (length whole == 0) ≡ false = ne_eqb (length whole) 0 (λ e. omega (arith, e, some)) in
    rw (size, full, drop-append_seam whole tail) refl

no_sign : (whole tail : List ℕ) → 0 < length whole → digits_len whole ≡ length whole → sign_len (whole ++ tail) ≡ 0
no_sign [] tail some all = absurd (omega (arith, some))
no_sign (digit ∷ digits) tail some all =
    let low = first_digit digit digits all in
    let minus : (digit == 45) ≡ false = ne_eqb digit 45 (λ e. omega (arith, e, low)) in
    let plus : (digit == 43) ≡ false = ne_eqb digit 43 (λ e. omega (arith, e, low)) in
    rw (minus, plus) refl

signed_back : (sign text : List ℕ) (len : ℕ) → IsSign sign → sign_len text ≡ 0 → unsigned_len text ≡ len → 0 < len → number_len (sign ++ text) ≡ length sign + len
unfolding number_len
signed_back [] text len signed none e some =
    let full : (len == 0) ≡ false = ne_eqb len 0 (λ same. omega (arith, same, some)) in
    rw (none, e, full) refl
signed_back (byte ∷ []) text len signed none e some =
    let full : (len == 0) ≡ false = ne_eqb len 0 (λ same. omega (arith, same, some)) in
    rw (signed, e, full) refl
signed_back (byte ∷ other ∷ rest) text len signed none e some = absurd signed

parts_back : (sign whole decimals rest : List ℕ) → IsSign sign → 0 < length whole → digits_len whole ≡ length whole → digits_len decimals ≡ length decimals → goes_on_number rest ≡ false → number_len (sign ++ (whole ++ (point_text decimals ++ rest))) ≡ length (sign ++ (whole ++ point_text decimals))
parts_back sign whole decimals rest signed some whole_digits decimal_digits past =
    let point = point_back decimals rest decimal_digits past in
    let unsigned : unsigned_len (whole ++ (point_text decimals ++ rest)) ≡ length whole + length (point_text decimals) = unsigned_back whole (point_text decimals ++ rest) some whole_digits point.0 ∙ rw point.1 refl in
    let size : length sign + (length whole + length (point_text decimals)) ≡ length (sign ++ (whole ++ point_text decimals)) = omega (arith, length-append sign (whole ++ point_text decimals), length-append whole (point_text decimals)) in
    signed_back sign (whole ++ (point_text decimals ++ rest)) (length whole + length (point_text decimals)) signed (no_sign whole (point_text decimals ++ rest) some whole_digits) unsigned (omega (arith, some)) ∙ size

-- all of a number's text is taken, where what follows does not go on with it
pub number_back : (text rest : List ℕ) → IsNumberText text → goes_on_number rest ≡ false → number_len (text ++ rest) ≡ length text
number_back text rest number past =
    rw (number.form, append_assoc number.sign (number.whole ++ point_text number.decimals) rest, append_assoc number.whole (point_text number.decimals) rest)
    (parts_back number.sign number.whole number.decimals rest number.signed number.some number.whole_digits number.decimal_digits past)

pub number_some : (text : List ℕ) → IsNumberText text → 0 < length text
number_some text number =
    rw number.form (omega (arith, number.some, length-append number.sign (number.whole ++ point_text number.decimals), length-append number.whole (point_text number.decimals)))

pub number_is : (text : List ℕ) → IsNumberText text → is_number text ≡ true
unfolding is_number
number_is text number =
    let whole : number_len text ≡ length text = rw (append-nil text) at (number_back text [] number refl) in
    rw (whole, lt-ltb 0 (length text) (number_some text number), eq-eqb (length text) (length text) refl) refl

-- What the front of a text is, as far as it is a number.

abbrev AreFrontDigits : List ℕ → Type 0
AreFrontDigits text = (digits_len (take (digits_len text) text) ≡ digits_len text) × (length (take (digits_len text) text) ≡ digits_len text)

front_digits : (text : List ℕ) → AreFrontDigits text
front_digits [] = rw no_digits (no_digits, refl)
front_digits (byte ∷ rest) = by_test (is_ascii_digit byte) refl (front_digits rest)
  where
    by_test : (test : Bool) → is_ascii_digit byte ≡ test → AreFrontDigits rest → AreFrontDigits (byte ∷ rest)
    by_test true e after = rw (digit_step byte rest e, add-one) (digit_step byte (take (digits_len rest) rest) e ∙ omega (arith, after.0), omega (arith, after.1))
    by_test false e after = rw (digit_stop byte rest e) (no_digits, refl)

point_some : (digits : List ℕ) → 0 < length digits → point_text digits ≡ 46 ∷ digits
point_some [] some = absurd (omega (arith, some))
point_some (digit ∷ digits) some = refl

record IsPointText (text : List ℕ) : Type 0 where
  decimals : List ℕ
  form : text ≡ point_text decimals
  all : digits_len decimals ≡ length decimals

front_point : (text : List ℕ) → IsPointText (take (fraction_len text) text)
front_point [] = record { decimals = []; form = refl; all = no_digits }
front_point (byte ∷ rest) = by_test ((byte == 46) && nat_lt 0 (digits_len rest)) refl
  where
    by_test : (test : Bool) → ((byte == 46) && nat_lt 0 (digits_len rest)) ≡ test → IsPointText (take (fraction_len (byte ∷ rest)) (byte ∷ rest))
    by_test true e =
        let parts = and_parts (byte == 46) (nat_lt 0 (digits_len rest)) e in
        let point : byte ≡ 46 = grind (arith, nat_tests, parts.0) in
        let some = ltb-true 0 (digits_len rest) parts.1 in
        let digits = front_digits rest in
        rw (e, add-one, point) record {
          decimals = take (digits_len rest) rest;
          form = sym (point_some (take (digits_len rest) rest) (omega (arith, some, digits.1)));
          all = digits.0 ∙ sym digits.1;
        }
    by_test false e = rw e record { decimals = []; form = refl; all = no_digits }

unsigned_none : (text : List ℕ) → digits_len text ≡ 0 → unsigned_len text ≡ 0
unfolding unsigned_len
unsigned_none text e = rw e refl

unsigned_some : (text : List ℕ) → (digits_len text == 0) ≡ false → unsigned_len text ≡ digits_len text + fraction_len (drop (digits_len text) text)
unfolding unsigned_len
unsigned_some text e = rw e refl

number_none : (text : List ℕ) → unsigned_len (drop (sign_len text) text) ≡ 0 → number_len text ≡ 0
unfolding number_len
number_none text e = rw e refl

number_size : (text : List ℕ) → (unsigned_len (drop (sign_len text) text) == 0) ≡ false → number_len text ≡ sign_len text + unsigned_len (drop (sign_len text) text)
unfolding number_len
number_size text e = rw e refl

take_sum : (i n : ℕ) (text : List ℕ) → length (take i text) ≡ i → take (i + n) text ≡ take i text ++ take n (drop i text)
take_sum i n text e = rw (e, take-append-drop i text) at (take-append-add (take i text) (drop i text) n)

record IsUnsignedText (text : List ℕ) : Type 0 where
  whole : List ℕ
  decimals : List ℕ
  form : text ≡ whole ++ point_text decimals
  some : 0 < length whole
  whole_digits : digits_len whole ≡ length whole
  decimal_digits : digits_len decimals ≡ length decimals

front_unsigned : (text : List ℕ) → 0 < unsigned_len text → IsUnsignedText (take (unsigned_len text) text)
front_unsigned text some = by_test (digits_len text == 0) refl
  where
    by_test : (test : Bool) → (digits_len text == 0) ≡ test → IsUnsignedText (take (unsigned_len text) text)
    by_test true e =
        let none : digits_len text ≡ 0 = grind (arith, nat_tests, e) in
        absurd (omega (arith, some, unsigned_none text none))
    by_test false e =
        let digits = front_digits text in
        let point = front_point (drop (digits_len text) text) in
        let full : 0 < digits_len text = grind (arith, nat_tests, e) in
        rw (unsigned_some text e, take_sum (digits_len text) (fraction_len (drop (digits_len text) text)) text digits.1) record {
          whole = take (digits_len text) text;
          decimals = point.decimals;
          form = rw point.form refl;
          some = omega (arith, full, digits.1);
          whole_digits = digits.0 ∙ sym digits.1;
          decimal_digits = point.all;
        }

front_sign : (text : List ℕ) → IsSign (take (sign_len text) text) × (length (take (sign_len text) text) ≡ sign_len text)
front_sign [] = (tt, refl)
front_sign (byte ∷ rest) = by_test ((byte == 45) || (byte == 43)) refl
  where
    by_test : (test : Bool) → ((byte == 45) || (byte == 43)) ≡ test → IsSign (take (sign_len (byte ∷ rest)) (byte ∷ rest)) × (length (take (sign_len (byte ∷ rest)) (byte ∷ rest)) ≡ sign_len (byte ∷ rest))
    by_test true e = rw e (e, refl)
    by_test false e = rw e (tt, refl)

-- what is read as a number has the form of one
pub front_number : (text : List ℕ) → 0 < number_len text → IsNumberText (take (number_len text) text)
front_number text some = by_test (unsigned_len (drop (sign_len text) text) == 0) refl
  where
    by_test : (test : Bool) → (unsigned_len (drop (sign_len text) text) == 0) ≡ test → IsNumberText (take (number_len text) text)
    by_test true e =
        let none : unsigned_len (drop (sign_len text) text) ≡ 0 = grind (arith, nat_tests, e) in
        absurd (omega (arith, some, number_none text none))
    by_test false e =
        let sign = front_sign text in
        let full : 0 < unsigned_len (drop (sign_len text) text) = grind (arith, nat_tests, e) in
        let rest = front_unsigned (drop (sign_len text) text) full in
        rw (number_size text e, take_sum (sign_len text) (unsigned_len (drop (sign_len text) text)) text sign.1) record {
          sign = take (sign_len text) text;
          whole = rest.whole;
          decimals = rest.decimals;
          form = rw rest.form refl;
          signed = sign.0;
          some = rest.some;
          whole_digits = rest.whole_digits;
          decimal_digits = rest.decimal_digits;
        }
