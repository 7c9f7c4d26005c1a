-- Numbers are read back from what is written for them.
use Rattle.std.proofs.Common.{◌≡◌, ℕ, zero, suc, ◌+◌, ◌*◌, ◌/◌, ◌%◌, ◌^◌, ◌<◌, ◌≤◌, true, false, ℤ, pos, negsuc, unsigned_abs, List, [], ◌∷◌, ◌++◌, decimal, arith, refl, sym, ap, ap₂, ◌∙◌, append_assoc}
use Rattle.std.specs.Char.{is_ascii_digit}
use Rattle.std.specs.List.{list_all}
use Rattle.std.specs.Str.Parse.{digits_value}
use Rattle.std.proofs.lemmas.Fmt.{decimal_by_steps_wide, decimal_is_IsNumeral_wide}
use Rattle.std.proofs.lemmas.List.Folds.{list_all-append}
use Rattle.std.proofs.lemmas.Nat.{div-add-mod'}
use Rattle.std.proofs.Math.Arith.{mod-mul}
use Rattle.std.proofs.Math.Nat.{div-le_self}
use Rattle.pc_num.specs.Put.{decimals_of, fraction_text, scaled_text, size_text}
use Rattle.pc_num.proofs.Decimals.{power_positive}
use Rattle.pc_num.proofs.ReadBack.{digit_is}
use Rattle.pc_report.proofs.Stops.{fronts_equal, same_head, same_tail, starts, unlike_starts}

-- ---- whole numbers

-- digits, of which there is one
abbrev AreDigits : ℕ → List ℕ → Type 0
AreDigits n text = (list_all is_ascii_digit text ≡ true) × ((r : List ℕ) → starts is_ascii_digit (text ++ r) ≡ true)

one_digit : (n : ℕ) → n < 10 → AreDigits n ((48 + n) ∷ [])
one_digit n small =
    let is : is_ascii_digit (48 + n) ≡ true = digit_is (48 + n) (omega arith) (omega arith) in
    (rw is refl, λ r. is)

more_digits : (n : ℕ) (text : List ℕ) → 10 ≤ n → AreDigits (n / 10) text → AreDigits n (text ++ ((48 + n % 10) ∷ []))
more_digits n text large before =
    let last = one_digit (n % 10) (omega arith) in
    (rw (list_all-append is_ascii_digit text ((48 + n % 10) ∷ []), before.0, last.0) refl, λ r. rw (append_assoc text ((48 + n % 10) ∷ []) r) (before.1 ((48 + n % 10) ∷ r)))

are_digits : (n : ℕ) → n < 10 ^ 64 → AreDigits n (decimal n)
are_digits n small = decimal_by_steps_wide AreDigits one_digit more_digits n small

decimal_same : (m n : ℕ) → m < 10 ^ 64 → n < 10 ^ 64 → decimal m ≡ decimal n → m ≡ n
decimal_same m n small less e = sym (decimal_is_IsNumeral_wide m small).1 ∙ ap (digits_value 10) e ∙ (decimal_is_IsNumeral_wide n less).1

pub decimal_back : (m n : ℕ) (r s : List ℕ) → m < 10 ^ 64 → n < 10 ^ 64 → starts is_ascii_digit r ≡ false → starts is_ascii_digit s ≡ false → decimal m ++ r ≡ decimal n ++ s → (m ≡ n) × (r ≡ s)
decimal_back m n r s small less stop end e =
    let both = fronts_equal is_ascii_digit (decimal m) (decimal n) r s (are_digits m small).0 (are_digits n less).0 stop end e in
    (decimal_same m n small less both.0, both.1)

-- ---- decimals

-- the last digits of a number, of which the first stands before the others
digits_split : (n power : ℕ) → 0 < power → n % (power * 10) ≡ n / power % 10 * power + n % power
digits_split n power h =
    let turned : power * 10 ≡ 10 * power = omega arith in
    rw turned (mod-mul n (omega arith) h)

decimals_back : (k m n : ℕ) (r s : List ℕ) → decimals_of k m ++ r ≡ decimals_of k n ++ s → (m % 10 ^ k ≡ n % 10 ^ k) × (r ≡ s)
unfolding decimals_of
decimals_back zero m n r s e = (omega arith, e)
decimals_back (suc k) m n r s e =
    let first : 48 + m / 10 ^ k % 10 ≡ 48 + n / 10 ^ k % 10 = same_head _ _ (decimals_of k m ++ r) (decimals_of k n ++ s) e in
    let digit : m / 10 ^ k % 10 ≡ n / 10 ^ k % 10 = omega (arith, first) in
    let rest = decimals_back k m n r s (same_tail _ _ (decimals_of k m ++ r) (decimals_of k n ++ s) e) in
    let power : 10 ^ suc k ≡ 10 ^ k * 10 = omega arith in
    (rw (power, digits_split m (10 ^ k) (power_positive k), digits_split n (10 ^ k) (power_positive k), digit, rest.0) refl, rest.1)

fraction_stops : (k n : ℕ) (r : List ℕ) → starts is_ascii_digit r ≡ false → starts is_ascii_digit (fraction_text k n ++ r) ≡ false
fraction_stops zero n r stop = stop
fraction_stops (suc k) n r stop = refl

fraction_back : (k m n : ℕ) (r s : List ℕ) → fraction_text k m ++ r ≡ fraction_text k n ++ s → (m % 10 ^ k ≡ n % 10 ^ k) × (r ≡ s)
fraction_back zero m n r s e = (omega arith, e)
fraction_back (suc k) m n r s e = decimals_back (suc k) m n r s (same_tail 46 46 (decimals_of (suc k) m ++ r) (decimals_of (suc k) n ++ s) e)

whole_again : (m n power : ℕ) → m / power ≡ n / power → m % power ≡ n % power → m ≡ n
whole_again m n power p q = sym (div-add-mod' m power) ∙ ap₂ (λ (a b : ℕ). a * power + b) p q ∙ div-add-mod' n power

size_back : (k m n : ℕ) (r s : List ℕ) → m < 10 ^ 64 → n < 10 ^ 64 → starts is_ascii_digit r ≡ false → starts is_ascii_digit s ≡ false → size_text k m ++ r ≡ size_text k n ++ s → (m ≡ n) × (r ≡ s)
size_back k m n r s small less stop end e =
    let grouped : decimal (m / 10 ^ k) ++ (fraction_text k m ++ r) ≡ decimal (n / 10 ^ k) ++ (fraction_text k n ++ s)
    = sym (append_assoc (decimal (m / 10 ^ k)) (fraction_text k m) r) ∙ e ∙ append_assoc (decimal (n / 10 ^ k)) (fraction_text k n) s in
    let fewer : m / 10 ^ k < 10 ^ 64 = omega (arith, div-le_self m (10 ^ k)) in
    let lower : n / 10 ^ k < 10 ^ 64 = omega (arith, div-le_self n (10 ^ k)) in
    let whole = decimal_back (m / 10 ^ k) (n / 10 ^ k) (fraction_text k m ++ r) (fraction_text k n ++ s) fewer lower (fraction_stops k m r stop) (fraction_stops k n s end) grouped in
    let last = fraction_back k m n r s whole.1 in
    (whole_again m n (10 ^ k) whole.0 last.0, last.1)

size_starts : (k n : ℕ) (r : List ℕ) → n < 10 ^ 64 → starts is_ascii_digit (size_text k n ++ r) ≡ true
size_starts k n r small =
    rw (append_assoc (decimal (n / 10 ^ k)) (fraction_text k n) r) ((are_digits (n / 10 ^ k) (omega (arith, div-le_self n (10 ^ k)))).1 (fraction_text k n ++ r))

-- ---- numbers with a sign

pub scaled_back : (k : ℕ) (x y : ℤ) (r s : List ℕ) → unsigned_abs x < 10 ^ 64 → unsigned_abs y < 10 ^ 64 → starts is_ascii_digit r ≡ false → starts is_ascii_digit s ≡ false → scaled_text x k ++ r ≡ scaled_text y k ++ s → (x ≡ y) × (r ≡ s)
unfolding scaled_text
scaled_back k (pos m) (pos n) r s small less stop end e =
    let sizes = size_back k m n r s small less stop end e in (ap pos sizes.0, sizes.1)
scaled_back k (pos m) (negsuc n) r s small less stop end e =
    absurd (unlike_starts is_ascii_digit (45 ∷ (size_text k (suc n) ++ s)) (size_text k m ++ r) (sym e) refl (size_starts k m r small))
scaled_back k (negsuc m) (pos n) r s small less stop end e =
    absurd (unlike_starts is_ascii_digit (45 ∷ (size_text k (suc m) ++ r)) (size_text k n ++ s) e refl (size_starts k n s less))
scaled_back k (negsuc m) (negsuc n) r s small less stop end e =
    let sizes = size_back k (suc m) (suc n) r s small less stop end (same_tail 45 45 (size_text k (suc m) ++ r) (size_text k (suc n) ++ s) e) in
    let same : suc m ≡ suc n = sizes.0 in
    (ap negsuc (omega (arith, same)), sizes.1)
