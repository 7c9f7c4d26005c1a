-- What is left of a side of a column is a side of it.
use Rattle.std.proofs.Common.{◌≡◌, ℕ, ◌<◌, ◌^◌, ◌&&◌, ◌==◌, nat_lt, length, Bool, true, false, true≢false, ℤ, pos, negsuc, ◌≤ℤ◌, int_le, if◌then◌else◌, Option, Some, None, Ok, refl, sym, arith, ltb-true, ltb-false, lt-ltb}
use Rattle.std.specs.Int.{int_min, int_max}
use Rattle.std.specs.Int.Bits.{bit_and}
use Rattle.std.specs.Prelude.{int_lt}
use Rattle.std.proofs.lemmas.Bool.{and_parts, and_from}
use Rattle.std.proofs.lemmas.Bool.Decides.{nat_tests}
use Rattle.std.proofs.lemmas.Int.{ints, clamps}
use Rattle.std.proofs.lemmas.Nat.{and_le_l}
use Rattle.std.proofs.lemmas.Option.{none-some, same_Some}
use Rattle.pc_model.specs.declared.schema.Kind.{Kind}
use Rattle.pc_model.specs.declared.schema.Kind.TheVariants.{Int, Dec, Cat}
use Rattle.pc_model.specs.declared.region.Side.{Side}
use Rattle.pc_model.specs.declared.region.Side.TheVariants.{Span, Names}
use Rattle.pc_model.specs.Regions.{is_side_of, is_span_in, is_set_in, meet_sides, set_unless_empty, span_unless_empty}
use Rattle.pc_model.proofs.Between.{le_from_test, test_from_le}
use Rattle.pc_lang_grammar.specs.declared.syntax.Claim.{Claim}
use Rattle.pc_lang.specs.Claims.{stated}
use Rattle.pc_lang.specs.Parts.{narrowed_side, unless_empty}
use Rattle.pc_lang.proofs.Bound.{bound}

pub not_above : (low high : ℤ) → int_lt high low ≡ false → low ≤ℤ high
not_above (pos low) (pos high) h = omega (arith, ints, ltb-false high low h)
not_above (pos low) (negsuc high) h = absurd (true≢false h)
not_above (negsuc low) (pos high) h = omega (arith, ints)
not_above (negsuc low) (negsuc high) h = omega (arith, ints, ltb-false low high h)

-- numbers that are left, which are in order
pub spans_meet : (low high : ℤ) (side : Side) → span_unless_empty low high ≡ Some side → (side ≡ Span low high) × (low ≤ℤ high)
spans_meet low high side e = by_order (int_lt high low) refl e
  where
    by_order : (empty : Bool) → int_lt high low ≡ empty → (if empty then None else Some (Span low high)) ≡ Some side → (side ≡ Span low high) × (low ≤ℤ high)
    by_order true h e = absurd (none-some side e)
    by_order false h e = (sym (same_Some (Span low high) side e), not_above low high h)

pub sets_meet : (bits : ℕ) (side : Side) → set_unless_empty bits ≡ Some side → (side ≡ Names bits) × (0 < bits)
sets_meet bits side e = by_bits (bits == 0) refl e
  where
    by_bits : (empty : Bool) → (bits == 0) ≡ empty → (if empty then None else Some (Names bits)) ≡ Some side → (side ≡ Names bits) × (0 < bits)
    by_bits true h e = absurd (none-some side e)
    by_bits false h e = (sym (same_Some (Names bits) side e), grind (arith, nat_tests, h))

span_left : (low high : ℤ) (side other less : Side) → meet_sides side other ≡ Some less → is_span_in low high side ≡ true → is_span_in low high less ≡ true
unfolding meet_sides
span_left low high (Span from to) (Span other_from other_to) less e is =
    let met = spans_meet (int_max from other_from) (int_min to other_to) less e in
    let p = and_parts (int_le low from) (int_le from to && int_le to high) is in
    let q = and_parts (int_le from to) (int_le to high) p.1 in
    let above = le_from_test low from p.0 in
    let below = le_from_test to high q.1 in
    rw met.0 (and_from (int_le low (int_max from other_from)) (int_le (int_max from other_from) (int_min to other_to) && int_le (int_min to other_to) high)
    (test_from_le low (int_max from other_from) (omega (arith, ints, clamps)))
    (and_from (int_le (int_max from other_from) (int_min to other_to)) (int_le (int_min to other_to) high)
    (test_from_le (int_max from other_from) (int_min to other_to) met.1)
    (test_from_le (int_min to other_to) high (omega (arith, ints, clamps)))))
span_left low high (Span from to) (Names bits) less e is = absurd (none-some less e)
span_left low high (Names bits) other less e is = absurd (true≢false (sym is))

set_left : (count : ℕ) (side other less : Side) → meet_sides side other ≡ Some less → is_set_in count side ≡ true → is_set_in count less ≡ true
unfolding meet_sides
set_left count (Span from to) other less e is = absurd (true≢false (sym is))
set_left count (Names bits) (Span from to) less e is = absurd (none-some less e)
set_left count (Names bits) (Names other_bits) less e is =
    let met = sets_meet (bit_and bits other_bits) less e in
    let p = and_parts (nat_lt 0 bits) (nat_lt bits (2 ^ count)) is in
    let within : bit_and bits other_bits < 2 ^ count = omega (arith, and_le_l bits other_bits, ltb-true bits (2 ^ count) p.1) in
    rw met.0 (and_from (nat_lt 0 (bit_and bits other_bits)) (nat_lt (bit_and bits other_bits) (2 ^ count))
    (lt-ltb 0 (bit_and bits other_bits) met.1) (lt-ltb (bit_and bits other_bits) (2 ^ count) within))

meet_is_side : (kind : Kind) (side other less : Side) → meet_sides side other ≡ Some less → is_side_of kind side ≡ true → is_side_of kind less ≡ true
meet_is_side (Int low high) side other less e is = span_left low high side other less e is
meet_is_side (Dec scale low high) side other less e is = span_left low high side other less e is
meet_is_side (Cat names) side other less e is = set_left (length names) side other less e is

met : (found : Option Side) (less : Side) → unless_empty found ≡ Ok less → found ≡ Some less
met None less e = cc
met (Some side) less e = cc

-- what a claim states, and what is left
pub record Left (kind : Kind) (claim : Claim) (side less : Side) : Type 0 where
  pub other : Side
  pub states : stated kind claim ≡ Ok other
  pub meets : meet_sides side other ≡ Some less

pub left_of : (kind : Kind) (claim : Claim) (side less : Side) → narrowed_side kind claim side ≡ Ok less → Left kind claim side less
unfolding narrowed_side
left_of kind claim side less e =
    let b = bound (λ (other : Side). unless_empty (meet_sides side other)) (stated kind claim) less e in
    record { other = b.value; states = b.is; meets = met (meet_sides side b.value) less b.gives }

pub left_is_side : (kind : Kind) (claim : Claim) (side less : Side) → narrowed_side kind claim side ≡ Ok less → is_side_of kind side ≡ true → is_side_of kind less ≡ true
left_is_side kind claim side less e is = let left = left_of kind claim side less e in meet_is_side kind side left.other less left.meets is
