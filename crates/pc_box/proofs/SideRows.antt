-- The numbers of what two sides have in common, and of what one leaves of the other.
use Rattle.std.proofs.Common.{◌≡◌, ℕ, zero, suc, ◌<◌, ◌==◌, ◌&&◌, not, nat_lt, int_le, int_lt, Bool, true, false, ℤ, ◌≤ℤ◌, ◌<ℤ◌, Option, Some, None, is_some, if◌then◌else◌, refl, sym, ◌∙◌, ap, arith, eqb-true, ltb-true, lt-ltb, true≢false, unwrap_or}
use Rattle.std.specs.Int.{int_min, int_max}
use Rattle.std.specs.Int.Bits.{bit_and}
use Rattle.std.proofs.lemmas.Int.{ints, clamps}
use Rattle.std.proofs.lemmas.Bool.{and_parts, and_from, eqb-false}
use Rattle.pc_model.specs.declared.region.Side.{Side}
use Rattle.pc_model.specs.declared.region.Side.TheVariants.{Span, Names}
use Rattle.pc_model.specs.Membership.{holds, is_between}
use Rattle.pc_model.specs.Places.{is_place_of}
use Rattle.pc_model.specs.Regions.{meet_sides, span_unless_empty, set_unless_empty}
use Rattle.pc_model.proofs.Between.{le_from_test, test_from_le, between_parts, between_from}
use Rattle.pc_box.specs.Boxes.{are_like}
use Rattle.pc_model.specs.Places.{places_outside}
use Rattle.pc_box.specs.Sides.{sides_meet, common_side, is_within}
use Rattle.pc_model.proofs.Bools.{same_tests}
use Rattle.pc_box.proofs.Bools.{above_zero}
use Rattle.pc_model.proofs.SharedPlaces.{shared_place}
use Rattle.pc_box.proofs.Places.{outside_place, some_place, some_from_place}

-- a side of a box holds some number
pub number_of_side : (s t : Side) → are_like s t ≡ true → (n : ℤ) × (holds s n ≡ true)
unfolding holds
number_of_side (Span a b) (Span c d) h =
    let p = and_parts (int_le a b) (int_le c d) h in (a, between_from a b a (omega (arith, ints)) (le_from_test a b p.0))
number_of_side (Span a b) (Names y) h = absurd (true≢false (sym h))
number_of_side (Names x) (Span c d) h = absurd (true≢false (sym h))
number_of_side (Names x) (Names y) h = let p = and_parts (nat_lt 0 x) (nat_lt 0 y) h in some_place x (ltb-true 0 x p.0)

-- ---- what is common

-- what a meeting of two sides says of their numbers
abbrev Meeting : Side → Side → Option Side → Type 0
Meeting s t None = (n : ℤ) → holds s n ≡ true → holds t n ≡ true → ⊥
Meeting s t (Some m) = (are_like s m ≡ true) × ((n : ℤ) → holds m n ≡ (holds s n && holds t n))

spans_meeting : (a b c d : ℤ) → a ≤ℤ b → Meeting (Span a b) (Span c d) (span_unless_empty (int_max a c) (int_min b d))
unfolding holds
spans_meeting a b c d ordered = by_test (int_lt (int_min b d) (int_max a c)) refl
  where
    by_test : (empty : Bool) → int_lt (int_min b d) (int_max a c) ≡ empty → Meeting (Span a b) (Span c d) (if empty then None else Some (Span (int_max a c) (int_min b d)))
    by_test true e = λ n p q.
        let first = between_parts a b n p in
        let second = between_parts c d n q in
        let apart : int_min b d <ℤ int_max a c = grind (arith, ints, e) in
        absurd (omega (arith, ints, clamps))
    by_test false e =
        let some : int_max a c ≤ℤ int_min b d = grind (arith, ints, e) in (
          and_from (int_le a b) (int_le (int_max a c) (int_min b d)) (test_from_le a b ordered) (test_from_le (int_max a c) (int_min b d) some),
          λ n. same_tests _ _
              (λ held. let p = between_parts (int_max a c) (int_min b d) n held in
              and_from _ _ (between_from a b n (omega (arith, ints, clamps)) (omega (arith, ints, clamps))) (between_from c d n (omega (arith, ints, clamps)) (omega (arith, ints, clamps))))
              (λ both. let p = and_parts (is_between a b n) (is_between c d n) both in
              let first = between_parts a b n p.0 in
              let second = between_parts c d n p.1 in
              between_from (int_max a c) (int_min b d) n (omega (arith, ints, clamps)) (omega (arith, ints, clamps))),
        )

sets_meeting : (x y : ℕ) → 0 < x → Meeting (Names x) (Names y) (set_unless_empty (bit_and x y))
unfolding holds
sets_meeting x y some = by_test (bit_and x y == 0) refl
  where
    by_test : (empty : Bool) → (bit_and x y == 0) ≡ empty → Meeting (Names x) (Names y) (if empty then None else Some (Names (bit_and x y)))
    by_test true e = λ n p q.
        let held : is_place_of (bit_and x y) n ≡ true = shared_place x y n ∙ and_from _ _ p q in
        absurd (omega (arith, some_from_place (bit_and x y) n held, eqb-true (bit_and x y) 0 e))
    by_test false e =
        let different = eqb-false (bit_and x y) 0 e in
        (and_from (nat_lt 0 x) (nat_lt 0 (bit_and x y)) (lt-ltb 0 x some) (lt-ltb 0 (bit_and x y) (above_zero (bit_and x y) different)), shared_place x y)

meeting : (s t : Side) → are_like s t ≡ true → Meeting s t (meet_sides s t)
unfolding meet_sides
meeting (Span a b) (Span c d) h = let p = and_parts (int_le a b) (int_le c d) h in spans_meeting a b c d (le_from_test a b p.0)
meeting (Span a b) (Names y) h = absurd (true≢false (sym h))
meeting (Names x) (Span c d) h = absurd (true≢false (sym h))
meeting (Names x) (Names y) h = let p = and_parts (nat_lt 0 x) (nat_lt 0 y) h in sets_meeting x y (ltb-true 0 x p.0)

-- sides that do not meet share no number
pub nothing_shared : (s t : Side) (n : ℤ) → are_like s t ≡ true → sides_meet s t ≡ false → holds s n ≡ true → holds t n ≡ true → ⊥
nothing_shared s t n h apart p q = by_option (meet_sides s t) (meeting s t h) apart
  where
    by_option : (o : Option Side) → Meeting s t o → is_some o ≡ false → ⊥
    by_option None says e = says n p q
    by_option (Some m) says e = true≢false e

pub like_common : (s t : Side) → are_like s t ≡ true → sides_meet s t ≡ true → are_like s (common_side s t) ≡ true
like_common s t h meet = by_option (meet_sides s t) (meeting s t h) meet
  where
    by_option : (o : Option Side) → Meeting s t o → is_some o ≡ true → are_like s (unwrap_or o s) ≡ true
    by_option None says e = absurd (true≢false (sym e))
    by_option (Some m) says e = says.0

pub holds_common : (s t : Side) (n : ℤ) → are_like s t ≡ true → sides_meet s t ≡ true → holds (common_side s t) n ≡ (holds s n && holds t n)
holds_common s t n h meet = by_option (meet_sides s t) (meeting s t h) meet
  where
    by_option : (o : Option Side) → Meeting s t o → is_some o ≡ true → holds (unwrap_or o s) n ≡ (holds s n && holds t n)
    by_option None says e = absurd (true≢false (sym e))
    by_option (Some m) says e = says.1 n

-- ---- one side in another

pub within_holds : (s t : Side) (n : ℤ) → is_within s t ≡ true → holds s n ≡ true → holds t n ≡ true
unfolding holds is_within
within_holds (Span a b) (Span c d) n h held =
    let p = and_parts (int_le c a) (int_le b d) h in
    let low = le_from_test c a p.0 in
    let high = le_from_test b d p.1 in
    let q = between_parts a b n held in
    between_from c d n (omega (arith, ints)) (omega (arith, ints))
within_holds (Span a b) (Names y) n h held = absurd (true≢false (sym h))
within_holds (Names x) (Span c d) n h held = absurd (true≢false (sym h))
within_holds (Names x) (Names y) n h held = by_test (is_place_of y n) refl
  where
    by_test : (test : Bool) → is_place_of y n ≡ test → is_place_of y n ≡ true
    by_test true e = e
    by_test false e =
        let left : is_place_of (places_outside x y) n ≡ true = outside_place x y n ∙ rw (held, e) refl in
        absurd (omega (arith, some_from_place (places_outside x y) n left, eqb-true (places_outside x y) 0 h))

-- where each number of a side is one of the other, the test finds so
pub within_from : (s t : Side) → are_like s t ≡ true → ((n : ℤ) → holds s n ≡ true → holds t n ≡ true) → is_within s t ≡ true
unfolding holds is_within
within_from (Span a b) (Span c d) h all =
    let ordered = le_from_test a b (and_parts (int_le a b) (int_le c d) h).0 in
    let low = between_parts c d a (all a (between_from a b a (omega (arith, ints)) ordered)) in
    let high = between_parts c d b (all b (between_from a b b ordered (omega (arith, ints)))) in
    and_from (int_le c a) (int_le b d) (test_from_le c a low.0) (test_from_le b d high.1)
within_from (Span a b) (Names y) h all = absurd (true≢false (sym h))
within_from (Names x) (Span c d) h all = absurd (true≢false (sym h))
within_from (Names x) (Names y) h all = by_size (places_outside x y) (outside_place x y)
  where
    by_size : (left : ℕ) → ((n : ℤ) → is_place_of left n ≡ (is_place_of x n && not (is_place_of y n))) → (left == 0) ≡ true
    by_size zero says = refl
    by_size (suc left) says =
        let found = some_place (suc left) (omega arith) in
        let p = and_parts (is_place_of x found.0) (not (is_place_of y found.0)) (sym (says found.0) ∙ found.1) in
        absurd (true≢false (sym p.1 ∙ ap not (all found.0 p.0)))
