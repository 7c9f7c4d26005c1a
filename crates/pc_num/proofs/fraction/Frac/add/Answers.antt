use Rattle.std.proofs.Common.{ℤ, ap}
use Rattle.pc_num.proofs.Signed.{as_passed}
use Rattle.pc_num.proofs.Sums.{AnswersSum, AreParts, AreTotals, are_parts, are_totals, divisor_above, found, not_zero, refused}
use Rattle.pc_num.proofs.fraction.Frac.add.Goals as goal
use Rattle.pc_num.proofs.fraction.Frac.add.Goals.{In-Some, In-None, After-new}

pub share-own-requires-clause-some : goal.share-own-requires-clause-some
share-own-requires-clause-some c = divisor_above c.args.self.now c.args.other.now _ _ _ c.requires.own c.requires.others c.unsigned_abs.ensures.value c.unsigned_abs-2.ensures.value c.common_divisor-common.ensures

pub share-others-requires-clause-some : goal.share-others-requires-clause-some
share-others-requires-clause-some c = divisor_above c.args.self.now c.args.other.now _ _ _ c.requires.own c.requires.others c.unsigned_abs.ensures.value c.unsigned_abs-2.ensures.value c.common_divisor-common.ensures

parts : (c : In-Some) → AreParts c.args.self.now c.args.other.now c.common_divisor-common.result (as_passed c.args.self.now.num) (as_passed c.args.other.now.num) (as_passed c.share-own.result) (as_passed c.share-others.result) (as_passed c.args.other.now.den)
parts c = are_parts c.args.self.now c.args.other.now _ _ _ _ _ c.requires.own c.requires.others c.unsigned_abs.ensures.value c.unsigned_abs-2.ensures.value c.common_divisor-common.ensures c.share-own.ensures c.share-others.ensures

totals : (c : In-Some) → AreTotals c.args.self.now c.args.other.now c.common_divisor-common.result c.in-Some.total c.in-Some.den
totals c =
    let h = c.in-Some.ensures in
    are_totals c.args.self.now c.args.other.now _ _ _ _ _ _ _ _ (parts c) h.0 (ap (λ (p : ℤ × ℤ). p.0) h.1) (ap (λ (p : ℤ × ℤ). p.1) h.1)

pub new-requires : goal.new-requires
new-requires c = not_zero c.args.self.now c.args.other.now _ _ _ (totals c)

answers : (c : After-new) → AnswersSum c.args.self.now c.args.other.now c.new.result
answers c = found c.args.self.now c.args.other.now _ _ _ _ _ _ c.in-Some.total c.in-Some.den _ (parts c.before) (totals c.before) c.new.ensures.some c.new.ensures.fits

pub returns-in-Some-clause-some : goal.returns-in-Some-clause-some
returns-in-Some-clause-some c = (answers c).some

pub returns-in-Some-clause-exact : goal.returns-in-Some-clause-exact
returns-in-Some-clause-exact c = (answers c).exact

pub returns-in-None-clause-exact : goal.returns-in-None-clause-exact
returns-in-None-clause-exact c =
    let parts = are_parts c.args.self.now c.args.other.now _ _ _ _ _ c.requires.own c.requires.others c.unsigned_abs.ensures.value c.unsigned_abs-2.ensures.value c.common_divisor-common.ensures c.share-own.ensures c.share-others.ensures in
    (refused c.args.self.now c.args.other.now _ _ _ _ _ _ parts c.in-None.ensures).exact
