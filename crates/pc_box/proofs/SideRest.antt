-- The numbers of a side that are not in another, in one part or the other.
use Rattle.std.proofs.Common.{◌≡◌, ℕ, ◌+◌, ◌==◌, ◌&&◌, not, cond, nat_lt, int_le, int_lt, Bool, true, false, ℤ, pos, ◌≤ℤ◌, ◌<ℤ◌, ◌+ℤ◌, ◌-ℤ◌, Option, Some, None, is_some, if◌then◌else◌, refl, sym, ◌∙◌, ap, arith, eqb-true, lt-ltb, true≢false}
use Rattle.std.specs.Int.{int_min, int_max}
use Rattle.std.specs.Bool.{⊤}
use Rattle.std.proofs.lemmas.Int.{ints, clamps}
use Rattle.std.proofs.lemmas.Bool.{and_parts, and_from, false_from_ne_true, eqb-false}
use Rattle.pc_model.specs.declared.region.Side.{Side}
use Rattle.pc_model.specs.declared.region.Side.TheVariants.{Span, Names}
use Rattle.pc_model.specs.Membership.{holds, is_between}
use Rattle.pc_model.specs.Places.{is_place_of}
use Rattle.pc_model.specs.Regions.{meet_sides, span_unless_empty, set_unless_empty}
use Rattle.pc_model.proofs.Between.{le_from_test, test_from_le, between_parts, between_from}
use Rattle.pc_box.specs.Boxes.{are_like}
use Rattle.pc_model.specs.Places.{places_outside}
use Rattle.pc_box.specs.Sides.{sides_meet, lower_rest, upper_rest, span_below, span_above}
use Rattle.pc_box.proofs.Places.{outside_place, some_from_place}
use Rattle.pc_model.proofs.Bools.{same_tests}
use Rattle.pc_box.proofs.Bools.{counted, above_zero}

-- a number of a part, if there is one
abbrev pub part_holds : Option Side → ℤ → Bool
part_holds None n = false
part_holds (Some side) n = holds side n

abbrev pub IsPartLike : Side → Option Side → Type 0
IsPartLike side None = ⊤
IsPartLike side (Some part) = are_like side part ≡ true

below_held : (low end n : ℤ) → part_holds (span_below low end) n ≡ (int_le low n && int_lt n end)
unfolding holds
below_held low end n = by_test (int_lt low end) refl
  where
    by_test : (test : Bool) → int_lt low end ≡ test → part_holds (if test then Some (Span low (end -ℤ pos 1)) else None) n ≡ (int_le low n && int_lt n end)
    by_test true e =
        let last : int_le n (end -ℤ pos 1) ≡ int_lt n end = same_tests _ _ (λ h. grind (arith, ints, h)) (λ h. grind (arith, ints, h)) in
        rw last refl
    by_test false e =
        sym (false_from_ne_true (int_le low n && int_lt n end) (λ both. let p = and_parts (int_le low n) (int_lt n end) both in grind (arith, ints, e, p.0, p.1)))

above_held : (end high n : ℤ) → part_holds (span_above end high) n ≡ (int_lt end n && int_le n high)
unfolding holds
above_held end high n = by_test (int_lt end high) refl
  where
    by_test : (test : Bool) → int_lt end high ≡ test → part_holds (if test then Some (Span (end +ℤ pos 1) high) else None) n ≡ (int_lt end n && int_le n high)
    by_test true e =
        let first : int_le (end +ℤ pos 1) n ≡ int_lt end n = same_tests _ _ (λ h. grind (arith, ints, h)) (λ h. grind (arith, ints, h)) in
        rw first refl
    by_test false e =
        sym (false_from_ne_true (int_lt end n && int_le n high) (λ both. let p = and_parts (int_lt end n) (int_le n high) both in grind (arith, ints, e, p.0, p.1)))

set_held : (bits : ℕ) (n : ℤ) → part_holds (set_unless_empty bits) n ≡ is_place_of bits n
unfolding holds
set_held bits n = by_test (bits == 0) refl
  where
    by_test : (test : Bool) → (bits == 0) ≡ test → part_holds (if test then None else Some (Names bits)) n ≡ is_place_of bits n
    by_test true e = sym (false_from_ne_true (is_place_of bits n) (λ held. absurd (omega (arith, some_from_place bits n held, eqb-true bits 0 e))))
    by_test false e = refl

pub some_span : (low high : ℤ) → is_some (span_unless_empty low high) ≡ true → low ≤ℤ high
some_span low high h = by_test (int_lt high low) refl h
  where
    by_test : (test : Bool) → int_lt high low ≡ test → is_some (if test then None else Some (Span low high)) ≡ true → low ≤ℤ high
    by_test true e f = absurd (true≢false (sym f))
    by_test false e f = grind (arith, ints)

spans_counted : (a b c d n : ℤ) → int_max a c ≤ℤ int_min b d →
    cond (int_le a n && int_lt n c) 1 0 + cond (int_lt d n && int_le n b) 1 0 ≡ cond (is_between a b n && not (is_between c d n)) 1 0
spans_counted a b c d n meet =
    counted (int_le a n && int_lt n c) (int_lt d n && int_le n b) (is_between a b n && not (is_between c d n))
    (λ p q. let low = and_parts (int_le a n) (int_lt n c) p in
    let high = and_parts (int_lt d n) (int_le n b) q in
    let less : n <ℤ c = grind (arith, ints, low.1) in
    let more : d <ℤ n = grind (arith, ints, high.0) in
    absurd (omega (arith, ints, clamps)))
    (λ p. let low = and_parts (int_le a n) (int_lt n c) p in
    let above = le_from_test a n low.0 in
    let less : n <ℤ c = grind (arith, ints, low.1) in
    and_from _ _ (between_from a b n above (omega (arith, ints, clamps)))
    (ap not (false_from_ne_true (is_between c d n) (λ h. let q = (between_parts c d n h).0 in absurd (omega (arith, ints))))))
    (λ q. let high = and_parts (int_lt d n) (int_le n b) q in
    let below = le_from_test n b high.1 in
    let more : d <ℤ n = grind (arith, ints, high.0) in
    and_from _ _ (between_from a b n (omega (arith, ints, clamps)) below)
    (ap not (false_from_ne_true (is_between c d n) (λ h. let r = (between_parts c d n h).1 in absurd (omega (arith, ints))))))
    (λ r p q. let both = and_parts (is_between a b n) (not (is_between c d n)) r in
    let inside = between_parts a b n both.0 in
    let first : c ≤ℤ n = not_below inside.0 p in
    let second : n ≤ℤ d = not_above inside.1 q in
    true≢false (sym both.1 ∙ ap not (between_from c d n first second)))
  where
    not_below : a ≤ℤ n → (int_le a n && int_lt n c) ≡ false → c ≤ℤ n
    not_below above p = by_test (int_lt n c) refl
      where
        by_test : (test : Bool) → int_lt n c ≡ test → c ≤ℤ n
        by_test true e = absurd (true≢false (sym (and_from (int_le a n) (int_lt n c) (test_from_le a n above) e) ∙ p))
        by_test false e = grind (arith, ints)

    not_above : n ≤ℤ b → (int_lt d n && int_le n b) ≡ false → n ≤ℤ d
    not_above below q = by_test (int_lt d n) refl
      where
        by_test : (test : Bool) → int_lt d n ≡ test → n ≤ℤ d
        by_test true e = absurd (true≢false (sym (and_from (int_lt d n) (int_le n b) e (test_from_le n b below)) ∙ q))
        by_test false e = grind (arith, ints)

-- a number of a side that is not in the other is in one of the parts
pub rest_counted : (s t : Side) (n : ℤ) → are_like s t ≡ true → sides_meet s t ≡ true →
    cond (part_holds (lower_rest s t) n) 1 0 + cond (part_holds (upper_rest s t) n) 1 0 ≡ cond (holds s n && not (holds t n)) 1 0
unfolding holds meet_sides lower_rest upper_rest
rest_counted (Span a b) (Span c d) n h meet = rw (below_held a c n, above_held d b n) (spans_counted a b c d n (some_span (int_max a c) (int_min b d) meet))
rest_counted (Span a b) (Names y) n h meet = absurd (true≢false (sym h))
rest_counted (Names x) (Span c d) n h meet = absurd (true≢false (sym h))
rest_counted (Names x) (Names y) n h meet = rw (set_held (places_outside x y) n, outside_place x y n) (omega arith)

pub lower_like : (s t : Side) → are_like s t ≡ true → IsPartLike s (lower_rest s t)
unfolding lower_rest
lower_like (Span a b) (Span c d) h = by_test (int_lt a c) refl
  where
    by_test : (test : Bool) → int_lt a c ≡ test → IsPartLike (Span a b) (if test then Some (Span a (c -ℤ pos 1)) else None)
    by_test true e =
        let some : int_le a (c -ℤ pos 1) ≡ true = grind (arith, ints, e) in
        and_from (int_le a b) (int_le a (c -ℤ pos 1)) (and_parts (int_le a b) (int_le c d) h).0 some
    by_test false e = tt
lower_like (Span a b) (Names y) h = tt
lower_like (Names x) (Span c d) h = tt
lower_like (Names x) (Names y) h = by_test (places_outside x y == 0) refl
  where
    by_test : (test : Bool) → (places_outside x y == 0) ≡ test → IsPartLike (Names x) (if test then None else Some (Names (places_outside x y)))
    by_test true e = tt
    by_test false e =
        and_from (nat_lt 0 x) (nat_lt 0 (places_outside x y)) (and_parts (nat_lt 0 x) (nat_lt 0 y) h).0
        (lt-ltb 0 (places_outside x y) (above_zero (places_outside x y) (eqb-false (places_outside x y) 0 e)))

pub upper_like : (s t : Side) → are_like s t ≡ true → IsPartLike s (upper_rest s t)
unfolding upper_rest
upper_like (Span a b) (Span c d) h = by_test (int_lt d b) refl
  where
    by_test : (test : Bool) → int_lt d b ≡ test → IsPartLike (Span a b) (if test then Some (Span (d +ℤ pos 1) b) else None)
    by_test true e =
        let some : int_le (d +ℤ pos 1) b ≡ true = grind (arith, ints, e) in
        and_from (int_le a b) (int_le (d +ℤ pos 1) b) (and_parts (int_le a b) (int_le c d) h).0 some
    by_test false e = tt
upper_like (Span a b) (Names y) h = tt
upper_like (Names x) t h = tt
