-- Values in form have the sizes that are asked for.
use Rattle.std.proofs.Common.{arith}
use Rattle.std.proofs.lemmas.Int.{ints}
use Rattle.pc_num.specs.declared.Frac.{Frac}
use Rattle.pc_model.specs.declared.query.Agg.{Agg}
use Rattle.pc_model.specs.declared.query.Agg.TheVariants.{Count, Sum, Min, Max, Avg}
use Rattle.pc_proof.specs.Form.{IsFormedWhole, IsFormedRatio, IsFormedValue}
use Rattle.pc_check_rules.specs.Fractions.{IsMeasured}

whole_measured : (value : Frac) → IsFormedWhole value → IsMeasured value
whole_measured value formed = record {
  positive = rw formed.one (omega (arith, ints));
  few = rw formed.one (omega (arith, ints));
  small = omega (arith, formed.small);
}

pub ratio_measured : (value : Frac) → IsFormedRatio value → IsMeasured value
ratio_measured value formed = record { positive = formed.reduced.above; few = formed.few; small = formed.small }

pub formed_measured : (agg : Agg) (value : Frac) → IsFormedValue agg value → IsMeasured value
formed_measured Count value formed = whole_measured value formed
formed_measured Sum value formed = whole_measured value formed
formed_measured Min value formed = whole_measured value formed
formed_measured Max value formed = whole_measured value formed
formed_measured Avg value formed = ratio_measured value formed
