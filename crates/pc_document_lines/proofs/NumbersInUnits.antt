-- An average is read back from the unit of its column, and what is read so is in lowest terms.
use Rattle.std.proofs.Common.{◌≡◌, ◌≤◌, ◌<◌, ◌*◌, ◌/◌, ◌^◌, ◌==◌, ◌&&◌, ℕ, zero, suc, ℤ, pos, negsuc, unsigned_abs, List, [], ◌∷◌, ◌++◌, arith, refl, ap, ap₂, sym, subst, ◌∙◌, Bool, true, false, Option, Some, None, if◌then◌else◌}
use Rattle.std.specs.Prelude.{◌<ℤ◌, ◌≤ℤ◌}
use Rattle.std.specs.Int.{IsGcd}
use Rattle.std.specs.List.{All, slice_split}
use Rattle.std.specs.Ordering.{int_eq}
use Rattle.std.proofs.lemmas.Bool.{and_parts, and_from, le-leb, leb-true}
use Rattle.std.proofs.lemmas.Bool.Decides.{Decides-int_eq}
use Rattle.std.proofs.lemmas.Int.{ints}
use Rattle.std.proofs.lemmas.List.{append-nil}
use Rattle.std.proofs.lemmas.List.Elements.{All-append, All-cons, All-nil}
use Rattle.std.proofs.lemmas.List.Splits.{slice_split_none}
use Rattle.std.proofs.lemmas.Nat.{mul-le}
use Rattle.std.proofs.Math.Nat.{pow-le-pow_right, div-le_self}
use Rattle.pc_num.specs.Fractions.{IsFrac, IsReducedOf}
use Rattle.pc_num.specs.Put.{frac_text, scaled_text}
use Rattle.pc_num.specs.Scaled.{signed}
use Rattle.pc_num.specs.Signs.{differ}
use Rattle.pc_num.specs.declared.fraction.Frac.{Frac}
use Rattle.pc_num.proofs.Divisors.{reduced_is_one}
use Rattle.pc_proof.specs.Form.{IsFormedRatio}
use Rattle.pc_report.specs.Units.{average_text, divisor, in_column, lowest}
use Rattle.pc_report.proofs.AveragesBack.{above_zero, den_above, signed_size}
use Rattle.pc_report.proofs.Units.{lowest_is_reduced}
use Rattle.pc_document_lines.specs.Numbers.{is_positive, is_within}
use Rattle.pc_document_lines.specs.ValueLines.{fraction_of, in_units, in_units_if, is_printed_size, is_ratio, likely_average}
use Rattle.pc_document_lines.proofs.NumbersBack.{number_bytes, numbers_again}
use Rattle.pc_document_lines.proofs.NumbersInLines.{IsInk, number_ink, number_unslashed, pieces_again}

-- ---- units

-- the sign of a printed fraction is that of the value
sign_again : (num : ℤ) (d x y : ℕ) → (0 < unsigned_abs num → 0 < x) → signed (differ (signed (differ num (pos d)) x) (pos y)) (unsigned_abs num) ≡ num
sign_again (pos n) d x y some = refl
sign_again (negsuc n) d zero y some = absurd (omega (arith, some (omega arith)))
sign_again (negsuc n) d (suc x) y some = refl

-- the cross products of the way back
turned : (x d power n y : ℕ) → x * (d * power) ≡ n * y → n * y ≡ (x * power) * d
turned x d power n y e = omega (arith, e)

-- over a denominator above 0
parts_again : (n : ℤ) (d scale : ℕ) → IsFrac (record { num = n; den = pos d }) → ◌≡◌ {A = Frac} (in_units scale (in_column scale (record { num = n; den = pos d }))) (record { num = n; den = pos d })
unfolding in_units in_column
parts_again n d scale is =
    let top = unsigned_abs n in
    let own = lowest_is_reduced top (d * 10 ^ scale) (den_above (record { num = n; den = pos d }) scale is) in
    let x = (lowest top (d * 10 ^ scale)).0 in
    let y = (lowest top (d * 10 ^ scale)).1 in
    let printed = signed (differ n (pos d)) x in
    let size : unsigned_abs printed ≡ x = signed_size (differ n (pos d)) x in
    let above = is.above in
    let kept : IsReducedOf (x * 10 ^ scale) y top d = record {
      above = omega (arith, ints, above);
      reduced = is.reduced;
      equal = turned x d (10 ^ scale) top y own.equal;
    } in
    let both = reduced_is_one _ _ _ _ _ _ own.above (lowest_is_reduced (x * 10 ^ scale) y own.above) kept in
    let sign = sign_again n d x y (λ some. above_zero x top y (d * 10 ^ scale) own.above some own.equal) in
    ap₂ (λ (num : ℤ) (den : ℕ). record { num = num; den = pos den })
    (ap (λ (k : ℕ). signed (differ printed (pos y)) (lowest (k * 10 ^ scale) y).0) size ∙ ap (λ (k : ℕ). signed (differ printed (pos y)) k) both.0 ∙ sign)
    (ap (λ (k : ℕ). (lowest (k * 10 ^ scale) y).1) size ∙ both.1)

-- over any denominator
frac_again : (n d : ℤ) (scale : ℕ) → IsFrac (record { num = n; den = d }) → ◌≡◌ {A = Frac} (in_units scale (in_column scale (record { num = n; den = d }))) (record { num = n; den = d })
frac_again n (pos d) scale is = parts_again n d scale is
frac_again n (negsuc d) scale is = let above = is.above in absurd (omega (arith, ints, above))

-- An average in the unit of its column, in units of the last place again, is that average.
pub units_again : (scale : ℕ) (value : Frac) → IsFormedRatio value → in_units scale (in_column scale value) ≡ value
units_again scale value formed = frac_again value.num value.den scale formed.reduced

-- ---- sizes

-- the sizes of a fraction that is printed
record IsPrinted (f : Frac) : Type 0 where
  num : unsigned_abs f.num ≤ 3 * 10 ^ 31
  above : pos 1 ≤ℤ f.den
  den : unsigned_abs f.den ≤ 3 * 10 ^ 22

-- an average in the unit of its column has them
column_printed : (scale : ℕ) (value : Frac) → scale ≤ 6 → IsFormedRatio value → IsPrinted (in_column scale value)
unfolding in_column
column_printed scale value few formed =
    let top = unsigned_abs value.num in
    let bottom = unsigned_abs value.den * 10 ^ scale in
    let small : unsigned_abs value.num ≤ 3 * 10 ^ 31 = formed.small in
    let den = formed.few in
    let above = formed.reduced.above in
    let most : bottom ≤ 3 * 10 ^ 16 * 10 ^ 6 = mul-le (unsigned_abs value.den) (10 ^ scale) (3 * 10 ^ 16) (10 ^ 6) (omega (arith, ints, den, above)) (pow-le-pow_right (omega arith) few) in
    let own = lowest_is_reduced top bottom (den_above value scale formed.reduced) in
    let some = own.above in
    record {
      num = rw (signed_size (differ value.num value.den) (top / divisor top bottom)) (omega (arith, div-le_self top (divisor top bottom), small));
      above = omega (arith, ints, some);
      den = omega (arith, div-le_self bottom (divisor top bottom), most);
    }

-- what has them passes the test
printed_is : (f : Frac) → IsPrinted f → is_printed_size f ≡ true
printed_is f printed =
    let above = printed.above in
    let positive : is_positive f.den ≡ true = grind (arith, ints, above) in
    and_from (is_within (3 * 10 ^ 31) f.num) _ (le-leb (unsigned_abs f.num) (3 * 10 ^ 31) printed.num)
    (and_from (is_positive f.den) _ positive (le-leb (unsigned_abs f.den) (3 * 10 ^ 22) printed.den))

-- ---- the text of a fraction

-- the text of a fraction is read as that fraction
fraction_pieces : (f : Frac) → IsPrinted f → fraction_of (slice_split (λ byte. byte == 47) (frac_text f)) ≡ Some f
unfolding frac_text
fraction_pieces f printed = by_test (int_eq f.den (pos 1)) refl
  where
    by_test : (test : Bool) → int_eq f.den (pos 1) ≡ test → fraction_of (slice_split (λ byte. byte == 47) (frac_text f)) ≡ Some f
    by_test true e =
        let one = (Decides-int_eq f.den (pos 1)).0 e in
        let size = printed.num in
        let small : unsigned_abs f.num < 10 ^ 64 = omega (arith, size) in
        rw (e, slice_split_none (λ byte. byte == 47) (scaled_text f.num 0) (number_unslashed (scaled_text f.num 0) (number_bytes f.num 0 small)), numbers_again f.num 0 small, sym one) refl
    by_test false e =
        let size = printed.num in
        let part = printed.den in
        let small : unsigned_abs f.num < 10 ^ 64 = omega (arith, size) in
        let few : unsigned_abs f.den < 10 ^ 64 = omega (arith, part) in
        let free = number_unslashed (scaled_text f.num 0) (number_bytes f.num 0 small) in
        let after = number_unslashed (scaled_text f.den 0) (number_bytes f.den 0 few) in
        let pieces = pieces_again (λ byte. byte == 47) 47 (scaled_text f.num 0) (scaled_text f.den 0 ∷ []) refl free (All-cons (All (λ byte. (byte == 47) ≡ false)) (scaled_text f.den 0) [] after (All-nil (All (λ byte. (byte == 47) ≡ false)))) in
        let ended : slice_split (λ byte. byte == 47) (scaled_text f.num 0 ++ 47 ∷ scaled_text f.den 0) ≡ scaled_text f.num 0 ∷ scaled_text f.den 0 ∷ [] = ap (λ rest. slice_split (λ byte. byte == 47) (scaled_text f.num 0 ++ 47 ∷ rest)) (sym (append-nil (scaled_text f.den 0))) ∙ pieces in
        rw (e, ended, numbers_again f.num 0 small, numbers_again f.den 0 few) refl

-- and is ink
fraction_ink : (f : Frac) → IsPrinted f → All IsInk (frac_text f)
unfolding frac_text
fraction_ink f printed = by_test (int_eq f.den (pos 1))
  where
    size : unsigned_abs f.num < 10 ^ 64
    size = let num = printed.num in omega (arith, num)

    part : unsigned_abs f.den < 10 ^ 64
    part = let den = printed.den in omega (arith, den)

    ink : All IsInk (scaled_text f.num 0)
    ink = number_ink (scaled_text f.num 0) (number_bytes f.num 0 size)

    by_test : (test : Bool) → All IsInk (if test then scaled_text f.num 0 else scaled_text f.num 0 ++ 47 ∷ scaled_text f.den 0)
    by_test true = ink
    by_test false = All-append IsInk (scaled_text f.num 0) (47 ∷ scaled_text f.den 0) ink (All-cons IsInk 47 (scaled_text f.den 0) (omega arith) (number_ink (scaled_text f.den 0) (number_bytes f.den 0 part)))

-- ---- averages

-- The text of an average is ink.
pub average_ink : (scale : ℕ) (value : Frac) → scale ≤ 6 → IsFormedRatio value → All IsInk (average_text scale value)
average_ink scale value few formed = fraction_ink (in_column scale value) (column_printed scale value few formed)

-- The text of an average is read as that average.
pub averages_again : (scale : ℕ) (value : Frac) → scale ≤ 6 → IsFormedRatio value → likely_average scale (average_text scale value) ≡ Some value
unfolding likely_average
averages_again scale value few formed =
    let printed = column_printed scale value few formed in
    ap (in_units_if scale) (fraction_pieces (in_column scale value) printed)
    ∙ ap (λ (test : Bool). if test then Some (in_units scale (in_column scale value)) else None) (printed_is (in_column scale value) printed)
    ∙ ap Some (units_again scale value formed)

-- ---- what is read is in lowest terms

-- lowest terms over a denominator above 0
abbrev IsInLowestTerms : Frac → Type 0
IsInLowestTerms f = (pos 0 <ℤ f.den) × IsGcd (unsigned_abs f.num) (unsigned_abs f.den) 1

-- a fraction in units of the last place is in lowest terms
units_reduced : (scale : ℕ) (f : Frac) → 0 < unsigned_abs f.den → IsInLowestTerms (in_units scale f)
unfolding in_units
units_reduced scale f some =
    let own = lowest_is_reduced (unsigned_abs f.num * 10 ^ scale) (unsigned_abs f.den) some in
    let above = own.above in
    let sizes = lowest (unsigned_abs f.num * 10 ^ scale) (unsigned_abs f.den) in
    (omega (arith, ints, above), subst (λ (n : ℕ). IsGcd n sizes.1 1) (sym (signed_size (differ f.num f.den) sizes.0)) own.reduced)

-- so is what is read as an average
read_reduced : (scale : ℕ) (found : Option Frac) (value : Frac) → in_units_if scale found ≡ Some value → IsInLowestTerms value
read_reduced scale None value e = absurd cc
read_reduced scale (Some f) value e = by_test (is_printed_size f) refl e
  where
    by_test : (test : Bool) → is_printed_size f ≡ test → (if test then Some (in_units scale f) else None) ≡ Some value → IsInLowestTerms value
    by_test false is same = absurd cc
    by_test true is same =
        let den = and_parts (is_positive f.den) (is_within (3 * 10 ^ 22) f.den) (and_parts (is_within (3 * 10 ^ 31) f.num) (is_positive f.den && is_within (3 * 10 ^ 22) f.den) is).1 in
        let least : pos 1 ≤ℤ f.den = grind (arith, ints, den.0) in
        let value_is : in_units scale f ≡ value = cc in
        subst IsInLowestTerms value_is (units_reduced scale f (omega (arith, ints, least)))

-- The sizes of a ratio, as a test.
pub ratio_tested : (value : Frac) → IsFormedRatio value → is_ratio value ≡ true
unfolding is_ratio
ratio_tested value formed =
    let above = formed.reduced.above in
    let few = formed.few in
    let positive : is_positive value.den ≡ true = grind (arith, ints, above) in
    and_from (is_positive value.den) _ positive
    (and_from (is_within (3 * 10 ^ 31) value.num) _ (le-leb (unsigned_abs value.num) (3 * 10 ^ 31) formed.small) (le-leb (unsigned_abs value.den) (3 * 10 ^ 16) (omega (arith, ints, few, above))))

-- A likely average of those sizes is a ratio.
pub read_ratio : (scale : ℕ) (text : List ℕ) (value : Frac) → likely_average scale text ≡ Some value → is_ratio value ≡ true → IsFormedRatio value
unfolding likely_average is_ratio
read_ratio scale text value e tested =
    let lowest_terms = read_reduced scale (fraction_of (slice_split (λ byte. byte == 47) text)) value e in
    let parts = and_parts (is_positive value.den) (is_within (3 * 10 ^ 31) value.num && is_within (3 * 10 ^ 16) value.den) tested in
    let sizes = and_parts (is_within (3 * 10 ^ 31) value.num) (is_within (3 * 10 ^ 16) value.den) parts.1 in
    let num = leb-true (unsigned_abs value.num) (3 * 10 ^ 31) sizes.0 in
    let den = leb-true (unsigned_abs value.den) (3 * 10 ^ 16) sizes.1 in
    record {
      reduced = record {
        above = lowest_terms.0;
        reduced = lowest_terms.1;
        num_fits = omega (arith, num);
        den_fits = omega (arith, den);
      };
      small = num;
      few = omega (arith, ints, den);
    }
