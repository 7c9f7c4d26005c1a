-- A number's plain field is read as that number.
use Rattle.std.proofs.Common.{◌≡◌, ◌∙◌, ℕ, zero, suc, ◌+◌, ◌/◌, ◌%◌, ◌^◌, ◌==◌, not, ◌<◌, ◌≤◌, ◌≤ℤ◌, ℤ, pos, negsuc, List, [], ◌∷◌, ◌++◌, length, get_or, reverse, position, Bool, true, false, Some, Ok, refl, sym, arith}
use Rattle.std.specs.Prelude.{decimal, int_le, unsigned_abs}
use Rattle.std.specs.Int.Signed.{le_z_yes}
use Rattle.std.specs.List.{list_all, position_or_len}
use Rattle.std.specs.Str.{bytes_eq}
use Rattle.std.proofs.lemmas.Bool.{and_parts, ne_eqb, lt-ltb, ltb-true, false≢true}
use Rattle.std.proofs.lemmas.Fmt.{decimal_by_steps_wide}
use Rattle.std.proofs.lemmas.Int.{ints}
use Rattle.std.proofs.lemmas.List.{reverse-append, reverse-reverse}
use Rattle.std.proofs.lemmas.List.Folds.{list_all-append}
use Rattle.std.proofs.lemmas.List.Sums.{position_or_len_is}
use Rattle.std.proofs.Math.Nat.{div-le_self}
use Rattle.pc_num.specs.Scaled.{greatest_size}
use Rattle.pc_num.specs.Put.{decimals_of, fraction_text, scaled_text, size_text}
use Rattle.pc_num.proofs.ReadBack.{reads_back}
use Rattle.pc_model.proofs.Lists.{bytes_eq-other, bytes_eq-same}
use Rattle.pc_model.specs.declared.schema.Kind.{Kind}
use Rattle.pc_model.specs.declared.schema.Kind.TheVariants.{Int, Dec, Cat}
use Rattle.pc_model.specs.Membership.{allows, is_between}
use Rattle.pc_model.specs.Places.{is_below}
use Rattle.pc_model.specs.WellFormed.{AreNames, IsKind, IsSmall, IsSpan}
use Rattle.pc_rows.specs.Plain.{cell_field}
use Rattle.pc_rows.specs.RowFile.{after_spaces, cell_of, number_within, place_number, without_spaces}

-- none of the bytes is a space
abbrev is_solid : List ℕ → Bool
is_solid text = list_all (λ byte. not (byte == 32)) text

solid_byte : (byte : ℕ) → 33 ≤ byte → not (byte == 32) ≡ true
solid_byte byte past = rw (ne_eqb byte 32 (λ e. omega (arith, e))) refl

solid-append : (xs ys : List ℕ) → is_solid xs ≡ true → is_solid ys ≡ true → is_solid (xs ++ ys) ≡ true
solid-append xs ys a b = list_all-append (λ byte. not (byte == 32)) xs ys ∙ rw (a, b) refl

solid_decimal : (n : ℕ) → n < 10 ^ 64 → is_solid (decimal n) ≡ true
solid_decimal n small = decimal_by_steps_wide (λ n text. is_solid text ≡ true) one more n small
  where
    one : (n : ℕ) → n < 10 → is_solid ((48 + n) ∷ []) ≡ true
    one n few = rw (solid_byte (48 + n) (omega arith)) refl

    more : (n : ℕ) (text : List ℕ) → 10 ≤ n → is_solid text ≡ true → is_solid (text ++ ((48 + n % 10) ∷ [])) ≡ true
    more n text large before = solid-append text ((48 + n % 10) ∷ []) before (one (n % 10) (omega arith))

solid_decimals : (k n : ℕ) → is_solid (decimals_of k n) ≡ true
unfolding decimals_of
solid_decimals zero n = refl
solid_decimals (suc k) n = rw (solid_byte (48 + n / 10 ^ k % 10) (omega arith), solid_decimals k n) refl

solid_fraction : (k n : ℕ) → is_solid (fraction_text k n) ≡ true
solid_fraction zero n = refl
solid_fraction (suc k) n = solid_decimals (suc k) n

solid_size : (scale size : ℕ) → size ≤ greatest_size → is_solid (size_text scale size) ≡ true
solid_size scale size small =
    solid-append (decimal (size / 10 ^ scale)) (fraction_text scale size) (solid_decimal (size / 10 ^ scale) (omega (arith, div-le_self size (10 ^ scale)))) (solid_fraction scale size)

solid_number : (number : ℤ) (scale : ℕ) → IsSmall number → is_solid (scaled_text number scale) ≡ true
unfolding scaled_text
solid_number (pos size) scale small = solid_size scale size small
solid_number (negsuc below) scale small = solid_size scale (suc below) small

-- a text without spaces stays as it is
no_spaces : (text : List ℕ) → is_solid text ≡ true → after_spaces text ≡ text
unfolding after_spaces
no_spaces [] solid = refl
no_spaces (byte ∷ rest) solid = by_test (byte == 32) refl
  where
    by_test : (test : Bool) → (byte == 32) ≡ test → after_spaces (byte ∷ rest) ≡ byte ∷ rest
    by_test true e = absurd (false≢true (rw e at solid))
    by_test false e = rw e refl

solid-reverse : (text : List ℕ) → is_solid text ≡ true → is_solid (reverse text) ≡ true
solid-reverse [] solid = refl
solid-reverse (byte ∷ rest) solid =
    let parts : (not (byte == 32) ≡ true) × (is_solid rest ≡ true) = and_parts (not (byte == 32)) (is_solid rest) solid in
    let last : is_solid (byte ∷ []) ≡ true = rw parts.0 refl in
    rw (reverse-append (byte ∷ []) rest) (solid-append (reverse rest) (byte ∷ []) (solid-reverse rest parts.1) last)

untrimmed : (text : List ℕ) → is_solid text ≡ true → without_spaces text ≡ text
untrimmed text solid = rw (no_spaces text solid, no_spaces (reverse text) (solid-reverse text solid)) (reverse-reverse text)

-- a number between small ones is small
small_between : (low high number : ℤ) → IsSpan low high → is_between low high number ≡ true → IsSmall number
small_between low high number is inside =
    let parts : (int_le low number ≡ true) × (int_le number high ≡ true) = and_parts (int_le low number) (int_le number high) inside in
    let above : low ≤ℤ number = le_z_yes (rw parts.0 tt) in
    let below : number ≤ℤ high = le_z_yes (rw parts.1 tt) in
    omega (arith, ints, is.small_low, is.small_high)

number_again : (scale : ℕ) (low high number : ℤ) → IsSpan low high → is_between low high number ≡ true → number_within scale low high (scaled_text number scale) ≡ Ok number
number_again scale low high number is inside =
    let small : IsSmall number = small_between low high number is inside in
    rw (untrimmed (scaled_text number scale) (solid_number number scale small), reads_back number scale small, inside) refl

name_again : (names : List (List ℕ)) (place : ℕ) → AreNames names → place < length names → position (bytes_eq (get_or names place [])) names ≡ Some place
name_again names place are inside =
    let name = get_or names place [] in
    let at : position_or_len (bytes_eq name) names ≡ place =
    position_or_len_is (bytes_eq name) names place [] (omega arith) (λ k before. bytes_eq-other name (get_or names k []) (λ same. are.different k place [] before inside (sym same))) (λ _. bytes_eq-same name) in
    rw (at, lt-ltb place (length names) inside) refl

cat_again : (names : List (List ℕ)) (number : ℤ) → AreNames names → is_below (length names) number ≡ true → place_number (position (bytes_eq (get_or names (unsigned_abs number) [])) names) ≡ Ok number
cat_again names (pos place) are inside = rw (name_again names place are (ltb-true place (length names) inside)) refl
cat_again names (negsuc below) are inside = absurd (false≢true inside)

pub cell_again : (kind : Kind) (number : ℤ) → IsKind kind → allows kind number ≡ true → cell_of kind (cell_field kind number) ≡ Ok number
unfolding cell_of allows
cell_again (Int low high) number is inside = number_again 0 low high number is inside
cell_again (Dec scale low high) number is inside = number_again scale low high number is.1 inside
cell_again (Cat names) number is inside = cat_again names number is.own inside
