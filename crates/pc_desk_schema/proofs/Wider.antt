-- The ends of numbers of which each is small.
use Rattle.std.proofs.Common.{ℤ, Bool, true, false, cond, arith}
use Rattle.std.specs.Int.{int_max, int_min}
use Rattle.std.specs.Prelude.{int_lt}
use Rattle.std.proofs.lemmas.Int.{clamps, ints}
use Rattle.pc_model.specs.WellFormed.{IsSmall, IsSpan}
use Rattle.pc_desk_schema.specs.declared.numbers.Ends.{Ends}

either : (test : Bool) (x y : ℤ) → IsSmall x → IsSmall y → IsSmall (cond test x y)
either true x y small other = small
either false x y small other = other

pub wider_span : (ends : Ends) (number : ℤ) → IsSpan ends.low ends.high → IsSmall number → IsSpan (int_min ends.low number) (int_max ends.high number)
wider_span ends number span small = record {
  small_low = either (int_lt number ends.low) number ends.low small span.small_low;
  small_high = either (int_lt number ends.high) ends.high number span.small_high small;
  ordered = omega (arith, ints, clamps, span.ordered);
}
