-- What is left of a side holds what the side holds and the claim states.
use Rattle.std.proofs.Common.{◌≡◌, ℕ, zero, suc, ◌+◌, ◌*◌, ◌/◌, ◌%◌, ◌&&◌, ◌==◌, Bool, true, false, ℤ, pos, negsuc, ◌+ℤ◌, ◌-ℤ◌, ◌≤ℤ◌, ◌<ℤ◌, int_le, int_lt, T, List, [], ◌∷◌, Some, Result, Ok, Err, refl, sym, subst, ap, ◌∙◌, arith}
use Rattle.std.specs.Prelude.{slice_get}
use Rattle.std.specs.Int.{bit_at, int_min, int_max}
use Rattle.std.specs.Int.Bits.{bit_and}
use Rattle.std.specs.Int.Signed.{lt_z_yes}
use Rattle.std.specs.List.{list_all}
use Rattle.std.specs.Ordering.{int_eq}
use Rattle.std.proofs.lemmas.Bool.{and_parts, and_from}
use Rattle.std.proofs.lemmas.Bool.Decides.{Decides-int_eq}
use Rattle.std.proofs.lemmas.Int.{ints, clamps}
use Rattle.std.proofs.lemmas.Nat.Bits.{bit_at-suc, bit_at-zero, bit_at_lowest}
use Rattle.std.proofs.lemmas.Option.{none-some}
use Rattle.pc_model.specs.declared.fault.Reason.{Reason}
use Rattle.pc_model.specs.declared.fault.Reason.TheVariants as reasons
use Rattle.pc_model.specs.declared.schema.Kind.{Kind}
use Rattle.pc_model.specs.declared.schema.Kind.TheVariants.{Int, Dec, Cat}
use Rattle.pc_model.specs.declared.region.Side.{Side}
use Rattle.pc_model.specs.declared.region.Side.TheVariants.{Span, Names}
use Rattle.pc_model.specs.Membership.{allows, holds, is_between}
use Rattle.pc_model.specs.Numbers.{number_of}
use Rattle.pc_model.specs.Places.{is_place_of}
use Rattle.pc_model.specs.Refusals.{◌>>=◌}
use Rattle.pc_model.specs.Regions.{is_side_of, meet_sides}
use Rattle.pc_model.proofs.Bools.{same_tests}
use Rattle.pc_model.proofs.SharedPlaces.{shared_place}
use Rattle.pc_model.proofs.Between.{test_from_le, between_parts, between_from}
use Rattle.pc_model.proofs.Regions.{side_inside}
use Rattle.pc_lang_grammar.specs.declared.syntax.Claim.{Claim}
use Rattle.pc_lang_grammar.specs.declared.syntax.Claim.TheVariants as claims
use Rattle.pc_lang.specs.Claims.{bit_if, bits_of, is_among, set_of, span, stated, stated_names, stated_numbers}
use Rattle.pc_lang.specs.Holding.{is_name_of, is_one_of, name_claim, number_claim, passes, states}
use Rattle.pc_lang.specs.Parts.{narrowed_side}
use Rattle.pc_lang.proofs.Bound.{granted}
use Rattle.pc_lang.proofs.Meeting.{left_of, not_above, spans_meet, sets_meet}

both_between : (a b c d n : ℤ) → is_between (int_max a c) (int_min b d) n ≡ (is_between a b n && is_between c d n)
both_between a b c d n =
    same_tests (is_between (int_max a c) (int_min b d) n) (is_between a b n && is_between c d n)
    (λ h. let p = between_parts (int_max a c) (int_min b d) n h in
    and_from (is_between a b n) (is_between c d n)
    (between_from a b n (omega (arith, ints, clamps)) (omega (arith, ints, clamps)))
    (between_from c d n (omega (arith, ints, clamps)) (omega (arith, ints, clamps))))
    (λ h. let p = and_parts (is_between a b n) (is_between c d n) h in
    let q = between_parts a b n p.0 in
    let r = between_parts c d n p.1 in
    between_from (int_max a c) (int_min b d) n (omega (arith, ints, clamps)) (omega (arith, ints, clamps)))

meet_holds : (side other less : Side) (n : ℤ) → meet_sides side other ≡ Some less → holds less n ≡ (holds side n && holds other n)
unfolding meet_sides holds
meet_holds (Span a b) (Span c d) less n e = let met = spans_meet (int_max a c) (int_min b d) less e in rw met.0 (both_between a b c d n)
meet_holds (Span a b) (Names bits) less n e = absurd (none-some less e)
meet_holds (Names bits) (Span a b) less n e = absurd (none-some less e)
meet_holds (Names a) (Names b) less n e = let met = sets_meet (bit_and a b) less e in rw met.0 (shared_place a b n)

lowest_tells : (test : Bool) (rest : ℕ) → (bit_at (bit_if test + 2 * rest) 0 == 1) ≡ test
lowest_tells true rest = let one : (1 + 2 * rest) % 2 ≡ 1 = omega arith in rw (bit_at_lowest (1 + 2 * rest), one) refl
lowest_tells false rest = let none : (0 + 2 * rest) % 2 ≡ 0 = omega arith in rw (bit_at_lowest (0 + 2 * rest), none) refl

further_bits : (test : Bool) (rest place : ℕ) → bit_at (bit_if test + 2 * rest) (suc place) ≡ bit_at rest place
further_bits true rest place = let half : (1 + 2 * rest) / 2 ≡ rest = omega arith in bit_at-suc (1 + 2 * rest) place ∙ ap (λ n. bit_at n place) half
further_bits false rest place = let half : (0 + 2 * rest) / 2 ≡ rest = omega arith in bit_at-suc (0 + 2 * rest) place ∙ ap (λ n. bit_at n place) half

-- the bit of a place tells whether its name is stated
bit_tells : (stated names : List (List ℕ)) (place : ℕ) → (bit_at (bits_of stated names) place == 1) ≡ is_one_of stated (slice_get names place)
unfolding bits_of
bit_tells stated [] place = rw (bit_at-zero place) refl
bit_tells stated (name ∷ rest) zero = lowest_tells (is_among stated name) (bits_of stated rest)
bit_tells stated (name ∷ rest) (suc place) = ap (λ bit. bit == 1) (further_bits (is_among stated name) (bits_of stated rest) place) ∙ bit_tells stated rest place

place_tells : (names stated : List (List ℕ)) (other : Side) (n : ℤ) → set_of names stated ≡ Ok other → holds other n ≡ is_name_of names stated n
unfolding set_of holds
place_tells names stated other n e =
    let p = granted (list_all (is_among names) stated) reasons.UnknownName (Ok (Names (bits_of stated names))) other e in
    let same : Names (bits_of stated names) ≡ other = (let is = p.1 in cc) in
    rw (← same) (at n)
  where
    at : (n : ℤ) → is_place_of (bits_of stated names) n ≡ is_name_of names stated n
    at (pos place) = bit_tells stated names place
    at (negsuc below) = refl

names_tell : (names : List (List ℕ)) (claim : Claim) (other : Side) (n : ℤ) → stated_names names claim ≡ Ok other → holds other n ≡ name_claim names claim n
unfolding stated_names name_claim
names_tell names (claims.Number text) other n e = cc
names_tell names (claims.Name name) other n e = place_tells names (name ∷ []) other n e
names_tell names (claims.AtLeast text) other n e = cc
names_tell names (claims.AtMost text) other n e = cc
names_tell names (claims.Above text) other n e = cc
names_tell names (claims.Below text) other n e = cc
names_tell names (claims.Within from_text upto_text) other n e = cc
names_tell names (claims.Among first others) other n e = place_tells names (first ∷ others) other n e

lt_from_test : (a b : ℤ) → int_lt a b ≡ true → a <ℤ b
lt_from_test a b h = lt_z_yes (subst T (sym h) tt)

test_from_lt : (a b : ℤ) → a <ℤ b → int_lt a b ≡ true
test_from_lt a b h = by_test (int_lt a b) refl
  where
    by_test : (test : Bool) → int_lt a b ≡ test → int_lt a b ≡ true
    by_test true e = e
    by_test false e = absurd (omega (arith, ints, not_above b a e))

equal_tells : (m n : ℤ) → is_between m m n ≡ int_eq n m
equal_tells m n =
    same_tests (is_between m m n) (int_eq n m)
    (λ h. let p = between_parts m m n h in (Decides-int_eq n m).1 (omega (arith, ints)))
    (λ h. let same = (Decides-int_eq n m).0 h in between_from m m n (omega (arith, ints)) (omega (arith, ints)))

above_tells : (m high n : ℤ) → n ≤ℤ high → is_between (m +ℤ pos 1) high n ≡ int_lt m n
above_tells m high n within =
    same_tests (is_between (m +ℤ pos 1) high n) (int_lt m n)
    (λ h. let p = between_parts (m +ℤ pos 1) high n h in test_from_lt m n (omega (arith, ints)))
    (λ h. let less = lt_from_test m n h in between_from (m +ℤ pos 1) high n (omega (arith, ints)) within)

below_tells : (low m n : ℤ) → low ≤ℤ n → is_between low (m -ℤ pos 1) n ≡ int_lt n m
below_tells low m n within =
    same_tests (is_between low (m -ℤ pos 1) n) (int_lt n m)
    (λ h. let p = between_parts low (m -ℤ pos 1) n h in test_from_lt n m (omega (arith, ints)))
    (λ h. let less = lt_from_test n m h in between_from low (m -ℤ pos 1) n within (omega (arith, ints)))

at_least_tells : (m high n : ℤ) → n ≤ℤ high → is_between m high n ≡ int_le m n
at_least_tells m high n within =
    same_tests (is_between m high n) (int_le m n)
    (λ h. (and_parts (int_le m n) (int_le n high) h).0)
    (λ h. and_from (int_le m n) (int_le n high) h (test_from_le n high within))

at_most_tells : (low m n : ℤ) → low ≤ℤ n → is_between low m n ≡ int_le n m
at_most_tells low m n within =
    same_tests (is_between low m n) (int_le n m)
    (λ h. (and_parts (int_le low n) (int_le n m) h).1)
    (λ h. and_from (int_le low n) (int_le n m) (test_from_le low n within) h)

-- one number that a claim spells
one_tells : (found : Result ℤ Reason) (side : ℤ → Side) (test : ℤ → Bool) (other : Side) (n : ℤ) → ((m : ℤ) → holds (side m) n ≡ test m) → (found >>= λ m. Ok (side m)) ≡ Ok other → holds other n ≡ passes found test
one_tells (Ok m) side test other n tells e = let same : side m ≡ other = cc in rw (← same) (tells m)
one_tells (Err reason) side test other n tells e = cc

two_tell : (from upto : Result ℤ Reason) (other : Side) (n : ℤ) → (from >>= λ low. upto >>= λ high. span low high) ≡ Ok other → holds other n ≡ (passes from (λ low. int_le low n) && passes upto (λ high. int_le n high))
unfolding holds
two_tell (Ok low) (Ok high) other n e = let same : Span low high ≡ other = cc in rw (← same) refl
two_tell (Ok low) (Err reason) other n e = cc
two_tell (Err reason) upto other n e = cc

numbers_tell : (scale : ℕ) (low high : ℤ) (claim : Claim) (other : Side) (n : ℤ) → is_between low high n ≡ true → stated_numbers scale low high claim ≡ Ok other → holds other n ≡ number_claim scale claim n
unfolding stated_numbers number_claim holds
numbers_tell scale low high (claims.Number text) other n inside e = one_tells (number_of scale text) (λ m. Span m m) (λ m. int_eq n m) other n (λ m. equal_tells m n) e
numbers_tell scale low high (claims.Name name) other n inside e = cc
numbers_tell scale low high (claims.AtLeast text) other n inside e = one_tells (number_of scale text) (λ m. Span m high) (λ m. int_le m n) other n (λ m. at_least_tells m high n (between_parts low high n inside).1) e
numbers_tell scale low high (claims.AtMost text) other n inside e = one_tells (number_of scale text) (λ m. Span low m) (λ m. int_le n m) other n (λ m. at_most_tells low m n (between_parts low high n inside).0) e
numbers_tell scale low high (claims.Above text) other n inside e = one_tells (number_of scale text) (λ m. Span (m +ℤ pos 1) high) (λ m. int_lt m n) other n (λ m. above_tells m high n (between_parts low high n inside).1) e
numbers_tell scale low high (claims.Below text) other n inside e = one_tells (number_of scale text) (λ m. Span low (m -ℤ pos 1)) (λ m. int_lt n m) other n (λ m. below_tells low m n (between_parts low high n inside).0) e
numbers_tell scale low high (claims.Within from_text upto_text) other n inside e = two_tell (number_of scale from_text) (number_of scale upto_text) other n e
numbers_tell scale low high (claims.Among first others) other n inside e = cc

stated_tells : (kind : Kind) (claim : Claim) (other : Side) (n : ℤ) → allows kind n ≡ true → stated kind claim ≡ Ok other → holds other n ≡ states kind claim n
unfolding stated states allows
stated_tells (Int low high) claim other n inside e = numbers_tell 0 low high claim other n inside e
stated_tells (Dec scale low high) claim other n inside e = numbers_tell scale low high claim other n inside e
stated_tells (Cat names) claim other n inside e = names_tell names claim other n e

where_held : (kind : Kind) (claim : Claim) (side other : Side) (n : ℤ) (held : Bool) → holds side n ≡ held → is_side_of kind side ≡ true → stated kind claim ≡ Ok other → (held && holds other n) ≡ (held && states kind claim n)
where_held kind claim side other n true e is s = stated_tells kind claim other n (side_inside kind side n is e) s
where_held kind claim side other n false e is s = refl

-- what is left of a side of a column
pub left_holds : (kind : Kind) (claim : Claim) (side less : Side) (n : ℤ) → is_side_of kind side ≡ true → narrowed_side kind claim side ≡ Ok less → holds less n ≡ (holds side n && states kind claim n)
left_holds kind claim side less n is e =
    let left = left_of kind claim side less e in
    meet_holds side left.other less n left.meets ∙ where_held kind claim side left.other n (holds side n) refl is left.states
