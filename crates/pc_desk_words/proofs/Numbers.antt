-- The number that a text spells, by what std's `parse` makes of it.
use Rattle.std.proofs.Common.{◌≡◌, ℕ, ◌<◌, ◌≤◌, ◌^◌, ◌&&◌, Bool, true, false, List, Option, Some, None, nat_le, refl, sym, ap, ◌∙◌, arith, true≢false}
use Rattle.std.specs.Prelude.{if◌then◌else◌}
use Rattle.std.specs.Str.Parse.{digits_value, without_leading_plus, IsNumeral}
use Rattle.clap.specs.ValueTests.{is_unsigned_in}
use Rattle.clap.specs.Words.{IsUnsignedIn}
use Rattle.clap.specs.declared.builder.value_parser.ValueParser.TheVariants.{Unsigned}
use Rattle.clap.proofs.ValueTestLemmas.{accepts-Accepts, Accepts-accepts}
use Rattle.pc_desk_words.specs.Words.{number_of, within}

module _ (least most : ℕ) (small : most < 2 ^ 32) (text : List ℕ) where
  passes : IsUnsignedIn least most text → is_unsigned_in least most text ≡ true
  passes is = Accepts-accepts false (Unsigned least most) text is

  passed : is_unsigned_in least most text ≡ true → IsUnsignedIn least most text
  passed e = accepts-Accepts false (Unsigned least most) text e

  both_le : (number : ℕ) → least ≤ number → number ≤ most → (nat_le least number && nat_le number most) ≡ true
  both_le number low high = grind (arith, low, high)

  le_both : (number : ℕ) → (nat_le least number && nat_le number most) ≡ true → (least ≤ number) × (number ≤ most)
  le_both number e = (grind (arith, e), grind (arith, e))

  pub read_within : (number : ℕ) → (IsNumeral 10 (without_leading_plus text) × (digits_value 10 (without_leading_plus text) < 2 ^ 32)) × (number ≡ digits_value 10 (without_leading_plus text))
      → within least most number ≡ number_of least most text
  unfolding number_of
  read_within number parses = by (nat_le least number && nat_le number most) (is_unsigned_in least most text) refl refl
    where
      value : number ≡ digits_value 10 (without_leading_plus text)
      value = parses.1

      by : (a b : Bool) → (nat_le least number && nat_le number most) ≡ a → is_unsigned_in least most text ≡ b
          → ◌≡◌ {A = Option ℕ} (if a then Some number else None) (if b then Some (digits_value 10 (without_leading_plus text)) else None)
      by true true a b = ap (λ n. Some n) value
      by false false a b = refl
      by true false a b =
          let bounds = le_both number a in
          absurd (true≢false (sym (passes (parses.0.0, omega (arith, parses.0.1), omega (arith, value, bounds.0), omega (arith, value, bounds.1))) ∙ b))
      by false true a b =
          let is = passed b in
          absurd (true≢false (sym (both_le number (omega (arith, value, is.2)) (omega (arith, value, is.3))) ∙ a))

  pub none_read : ¬ (IsNumeral 10 (without_leading_plus text) × (digits_value 10 (without_leading_plus text) < 2 ^ 32)) → None ≡ number_of least most text
  unfolding number_of
  none_read fails = by (is_unsigned_in least most text) refl
    where
      by : (b : Bool) → is_unsigned_in least most text ≡ b → ◌≡◌ {A = Option ℕ} None (if b then Some (digits_value 10 (without_leading_plus text)) else None)
      by false b = refl
      by true b = let is = passed b in absurd (fails (is.0, omega (arith, is.3, small)))
