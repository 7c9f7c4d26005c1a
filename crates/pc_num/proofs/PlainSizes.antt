-- Texts of digits, and of digits with a point and as many decimals as the scale has.
use Rattle.std.proofs.Common.{◌≡◌, ◌≤◌, ◌<◌, inl, inr, ℕ, zero, suc, ◌+◌, ◌-◌, List, [], ◌∷◌, ◌++◌, length, drop, take, get_or, ◌*◌, add-one, drop-cons, arith, refl, ap, ◌∙◌, Bool, true, false, sym, subst, length-drop}
use Rattle.std.specs.Prelude.{Ok, Option, Some, None, IfSome, ◌==◌}
use Rattle.std.specs.Char.{is_ascii_digit}
use Rattle.std.proofs.lemmas.Bool.{cases_Bool, eq-eqb, eqb-true, lt-ltb}
use Rattle.std.proofs.lemmas.List.{append-nil, drop_all, take-append-drop}
use Rattle.pc_num.specs.Scaled.{after_point, are_digits, digits_len, greatest_size, has_decimals_past, number_after, padded, scaled_parts, scaled_plainly, scaled_size, scaled_unsigned, signed}
use Rattle.pc_num.proofs.Numbers.{number_after-append, number_after-end}
use Rattle.pc_num.proofs.ReadBack.{parts_back, unsigned_back, decimals_after}

padded_whole : (scale : ℕ) (decimals : List ℕ) → length decimals ≡ scale → padded scale decimals ≡ decimals
unfolding padded
padded_whole zero [] e = refl
padded_whole (suc scale) [] e = absurd (omega (arith, e))
padded_whole zero (digit ∷ decimals) e = absurd (omega (arith, e))
padded_whole (suc scale) (digit ∷ decimals) e = ap (λ (rest : List ℕ). digit ∷ rest) (padded_whole scale decimals (omega (arith, e)))

whole_scaled : (number : List ℕ) → scaled_size number [] 0 ≡ number_after 0 number
unfolding scaled_size padded
whole_scaled number = rw (append-nil number) refl

pub plain_whole : (number : List ℕ) (size : ℕ) → 0 < length number → digits_len number ≡ length number → size ≡ number_after 0 number → scaled_plainly 0 number size
unfolding digits_len
plain_whole number size some all e small minus =
    let exact : number_after 0 number ≡ size = sym e in
    let back : scaled_unsigned 0 minus (number ++ []) ≡ scaled_parts 0 minus number (Some []) = unsigned_back 0 minus number [] [] some all refl refl in
    rw (append-nil number) at back ∙ parts_back 0 minus number [] size refl (whole_scaled number ∙ exact) small

pointed_scaled : (whole decimals : List ℕ) (scale : ℕ) → length decimals ≡ scale → scaled_size whole decimals scale ≡ number_after (number_after 0 whole) decimals
unfolding scaled_size
pointed_scaled whole decimals scale e = rw (padded_whole scale decimals e, number_after-append 0 whole decimals) refl

all_decimals : (decimals : List ℕ) → 0 < length decimals → digits_len decimals ≡ length decimals → are_digits decimals ≡ true
unfolding are_digits
all_decimals decimals some all = rw (all, lt-ltb 0 (length decimals) some, eq-eqb (length decimals) (length decimals) refl) refl

point_after : (decimals : List ℕ) → digits_len (46 ∷ decimals) ≡ 0
unfolding digits_len
point_after decimals = refl

pointed : (whole decimals : List ℕ) (scale size : ℕ) (minus : Bool) → 0 < length whole → digits_len whole ≡ length whole → 0 < scale → length decimals ≡ scale → digits_len decimals ≡ length decimals → number_after (number_after 0 whole) decimals ≡ size → size ≤ greatest_size → scaled_unsigned scale minus (whole ++ 46 ∷ decimals) ≡ Ok (signed minus size)
pointed whole decimals scale size minus some all positive long digits e small =
    let are : are_digits decimals ≡ true = all_decimals decimals (omega (arith, long, positive)) digits in
    let within : has_decimals_past scale decimals ≡ false = rw (drop_all scale decimals (omega (arith, long))) refl in
    unsigned_back scale minus whole (46 ∷ decimals) decimals some all (point_after decimals) (decimals_after decimals are)
    ∙ parts_back scale minus whole decimals size within (pointed_scaled whole decimals scale long ∙ e) small

point_found : (rest decimals : List ℕ) → after_point rest ≡ Some decimals → rest ≡ 46 ∷ decimals
point_found [] decimals e = cc
point_found (byte ∷ rest) decimals e =
    elim (cases_Bool (byte == 46)) [
      | inl is ↦ let point : byte ≡ 46 = eqb-true byte 46 is in let same : Some rest ≡ Some decimals = rw is at e in cc
      | inr other ↦ let none : None ≡ Some decimals = rw other at e in cc
    ]

plain_pointed : (number decimals : List ℕ) (point before size : ℕ) → after_point (drop point number) ≡ Some decimals → 0 < length (take point number) → digits_len (take point number) ≡ length (take point number) → before ≡ number_after 0 (take point number) → digits_len decimals ≡ length decimals → size ≡ number_after before decimals → (scale : ℕ) → 0 < scale → point + scale + 1 ≡ length number → scaled_plainly scale number size
plain_pointed number decimals point before size found some all first digits e scale positive long small minus =
    let rest = point_found (drop point number) decimals found in
    let joined : take point number ++ 46 ∷ decimals ≡ number = ap (λ (r : List ℕ). take point number ++ r) (sym rest) ∙ take-append-drop point number in
    let sized : length (drop point number) ≡ scale + 1 = omega (arith, long, length-drop point number) in
    let shorter : length decimals ≡ scale = let same : length (drop point number) ≡ length decimals + 1 = ap length rest ∙ omega arith in omega (arith, same, sized) in
    let exact : number_after (number_after 0 (take point number)) decimals ≡ size = sym (rw first at e) in
    subst (λ (text : List ℕ). scaled_unsigned scale minus text ≡ Ok (signed minus size)) joined (pointed (take point number) decimals scale size minus some all positive shorter digits exact small)

pub pointed_sizes : (number decimals : List ℕ) (point before : ℕ) (result : Option ℕ) → after_point (drop point number) ≡ Some decimals → 0 < length (take point number) → digits_len (take point number) ≡ length (take point number) → before ≡ number_after 0 (take point number) → IfSome result (λ _. digits_len decimals ≡ length decimals) → IfSome result (λ size. size ≡ number_after before decimals) → IfSome result (λ size. (scale : ℕ) → 0 < scale → point + scale + 1 ≡ length number → scaled_plainly scale number size)
pointed_sizes number decimals point before None found some all first digits e = tt
pointed_sizes number decimals point before (Some size) found some all first digits e = plain_pointed number decimals point before size found some all first digits e

pub size_step : (digits : List ℕ) (i before size : ℕ) → i < length digits → is_ascii_digit (get_or digits i 0) ≡ true → digits_len digits ≡ i + digits_len (drop i digits) → number_after before digits ≡ number_after size (drop i digits) → (i + 1 ≤ length digits) × (digits_len digits ≡ i + 1 + digits_len (drop (i + 1) digits)) × (number_after before digits ≡ number_after (10 * size + (get_or digits i 0 - 48)) (drop (i + 1) digits))
unfolding digits_len number_after
size_step digits i before size inside is count value =
    let front : drop i digits ≡ get_or digits i 0 ∷ drop (i + 1) digits = rw add-one (drop-cons digits i 0 inside) in
    let shorter : digits_len (drop i digits) ≡ digits_len (drop (i + 1) digits) + 1 = ap digits_len front ∙ rw is refl in
    (omega (arith, inside), omega (arith, count, shorter), value ∙ ap (number_after size) front)

pub size_end : (digits : List ℕ) (i before size : ℕ) → i ≤ length digits → length digits ≤ i → digits_len digits ≡ i + digits_len (drop i digits) → number_after before digits ≡ number_after size (drop i digits) → (digits_len digits ≡ length digits) × (size ≡ number_after before digits)
unfolding digits_len
size_end digits i before size within over count value =
    let none : digits_len (drop i digits) ≡ 0 = rw (drop_all i digits over) refl in
    (omega (arith, count, none), sym (value ∙ number_after-end digits i size over))

pub ruleset size_after_steps = (size_step, size_end)
