-- What is written of a side leaves that side of the whole column.
use Rattle.std.proofs.Common.{◌≡◌, ℕ, ◌-◌, ◌^◌, ◌<◌, ◌==◌, ◌&&◌, true, false, length, ℤ, ◌≤ℤ◌, int_le, int_lt, nat_lt, refl, ap, ◌∙◌, inl, inr, arith, Ok, Some}
use Rattle.std.specs.Prelude.{bit_and}
use Rattle.std.specs.Int.{int_max, int_min}
use Rattle.std.specs.Ordering.{int_eq}
use Rattle.std.proofs.Math.Nat.{mod-eq_of_lt}
use Rattle.std.proofs.lemmas.Bool.{and_parts, cases_Bool, false≢true, ltb-true, ne_eqb}
use Rattle.std.proofs.lemmas.Bool.Decides.{Decides-int_eq}
use Rattle.std.proofs.lemmas.Int.{clamps, ints}
use Rattle.std.proofs.lemmas.Nat.{and_comm, and_mask}
use Rattle.pc_model.specs.declared.schema.Kind.{Kind}
use Rattle.pc_model.specs.declared.schema.Kind.TheVariants.{Int, Dec, Cat}
use Rattle.pc_model.specs.declared.region.Side.{Side}
use Rattle.pc_model.specs.declared.region.Side.TheVariants.{Span, Names}
use Rattle.pc_model.specs.Regions.{is_set_in, is_side_of, is_span_in, meet_sides, set_unless_empty, span_unless_empty, whole_side}
use Rattle.pc_model.specs.WellFormed.{IsKind, IsSmall, IsSpan}
use Rattle.pc_model.proofs.Between.{le_from_test}
use Rattle.pc_model.proofs.NumberTexts.{number_again}
use Rattle.pc_lang.specs.Claims.{stated, stated_numbers}
use Rattle.pc_lang.specs.Canonical.{side_claim, span_claim}
use Rattle.pc_lang.specs.Parts.{narrowed_side}
use Rattle.pc_lang.proofs.NamedSets.{names_again}

record IsInside (low high from upto : ℤ) : Type 0 where
  above : low ≤ℤ from
  ordered : from ≤ℤ upto
  below : upto ≤ℤ high

inside_of : (low high from upto : ℤ) → is_span_in low high (Span from upto) ≡ true → IsInside low high from upto
inside_of low high from upto e =
    let outer = and_parts (int_le low from) (int_le from upto && int_le upto high) e in
    let inner = and_parts (int_le from upto) (int_le upto high) outer.1 in
    record { above = le_from_test low from outer.0; ordered = le_from_test from upto inner.0; below = le_from_test upto high inner.1 }

IsSmall-between : (low high number : ℤ) → IsSpan low high → low ≤ℤ number → number ≤ℤ high → IsSmall number
IsSmall-between low high number is above below = let low_small = is.small_low in let high_small = is.small_high in omega (arith, ints, low_small, high_small)

span_again : (scale : ℕ) (low high from upto : ℤ) → IsSmall from → IsSmall upto → stated_numbers scale low high (span_claim scale from upto) ≡ Ok (Span from upto)
unfolding stated_numbers span_claim
span_again scale low high from upto small_from small_upto =
    elim (cases_Bool (int_eq from upto)) [
      | inl one ↦
          let same : from ≡ upto = (Decides-int_eq from upto).0 one in
          rw (one, number_again scale from small_from) (ap (λ (end : ℤ). Ok (Span from end)) same)
      | inr more ↦ rw (more, number_again scale from small_from, number_again scale upto small_upto) refl
    ]

-- the ends of a span of a column
pub ends_small : (low high from upto : ℤ) → IsSpan low high → is_span_in low high (Span from upto) ≡ true → IsSmall from × IsSmall upto
ends_small low high from upto is e =
    let within = inside_of low high from upto e in
    let above = within.above in
    let ordered = within.ordered in
    let below = within.below in
    (IsSmall-between low high from is above (omega (arith, ints)), IsSmall-between low high upto is (omega (arith, ints)) below)

span_stated : (scale : ℕ) (low high from upto : ℤ) → IsSpan low high → is_span_in low high (Span from upto) ≡ true → stated_numbers scale low high (span_claim scale from upto) ≡ Ok (Span from upto)
span_stated scale low high from upto is e = let small = ends_small low high from upto is e in span_again scale low high from upto small.0 small.1

pub record IsSet (count bits : ℕ) : Type 0 where
  pub some : 0 < bits
  pub small : bits < 2 ^ count

pub set_of_test : (count bits : ℕ) → is_set_in count (Names bits) ≡ true → IsSet count bits
set_of_test count bits e =
    let parts = and_parts (nat_lt 0 bits) (nat_lt bits (2 ^ count)) e in
    record { some = ltb-true 0 bits parts.0; small = ltb-true bits (2 ^ count) parts.1 }

-- what is written of a side states it
pub side_again : (kind : Kind) (side : Side) → IsKind kind → is_side_of kind side ≡ true → stated kind (side_claim kind side) ≡ Ok side
unfolding stated side_claim
side_again (Int low high) (Span from upto) is e = span_stated 0 low high from upto is e
side_again (Dec scale low high) (Span from upto) is e = span_stated scale low high from upto is.1 e
side_again (Cat names) (Names bits) is e =
    let set = set_of_test (length names) bits e in
    names_again names bits is.own.different set.some set.small
side_again (Int low high) (Names bits) is e = absurd (false≢true e)
side_again (Dec scale low high) (Names bits) is e = absurd (false≢true e)
side_again (Cat names) (Span from upto) is e = absurd (false≢true e)

meet_span : (low high from upto : ℤ) → IsInside low high from upto → span_unless_empty (int_max low from) (int_min high upto) ≡ Some (Span from upto)
meet_span low high from upto within =
    let above = within.above in
    let ordered = within.ordered in
    let below = within.below in
    let top : int_max low from ≡ from = omega (arith, ints, clamps) in
    let bottom : int_min high upto ≡ upto = omega (arith, ints, clamps) in
    let some : int_lt upto from ≡ false = grind (arith, ints) in
    rw (top, bottom, some) refl

meet_set : (count bits : ℕ) → IsSet count bits → set_unless_empty (bit_and (2 ^ count - 1) bits) ≡ Some (Names bits)
meet_set count bits set =
    let kept : bit_and (2 ^ count - 1) bits ≡ bits = and_comm (2 ^ count - 1) bits ∙ and_mask bits count ∙ mod-eq_of_lt set.small in
    let some : (bits == 0) ≡ false = ne_eqb bits 0 (λ none. omega (arith, none, set.some)) in
    rw (kept, some) refl

-- a side and the whole column have that side in common
pub meets_whole : (kind : Kind) (side : Side) → is_side_of kind side ≡ true → meet_sides (whole_side kind) side ≡ Some side
unfolding meet_sides
meets_whole (Int low high) (Span from upto) e = meet_span low high from upto (inside_of low high from upto e)
meets_whole (Dec scale low high) (Span from upto) e = meet_span low high from upto (inside_of low high from upto e)
meets_whole (Cat names) (Names bits) e = meet_set (length names) bits (set_of_test (length names) bits e)
meets_whole (Int low high) (Names bits) e = absurd (false≢true e)
meets_whole (Dec scale low high) (Names bits) e = absurd (false≢true e)
meets_whole (Cat names) (Span from upto) e = absurd (false≢true e)

-- a claim of a side leaves it of the whole column
pub narrowed_again : (kind : Kind) (side : Side) → IsKind kind → is_side_of kind side ≡ true → narrowed_side kind (side_claim kind side) (whole_side kind) ≡ Ok side
unfolding narrowed_side
narrowed_again kind side is e = rw (side_again kind side is e, meets_whole kind side e) refl
