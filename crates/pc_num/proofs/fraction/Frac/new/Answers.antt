use Rattle.std.specs.Int.{w128}
use Rattle.std.proofs.lemmas.Int.{to_z-of_z}
use Rattle.pc_num.proofs.Quotients.{AnswersQuotient, new_answers}
use Rattle.pc_num.proofs.fraction.Frac.new.Goals as goal

answers : (c : goal.After-made) → AnswersQuotient c.args.n c.args.d c.made.result
answers c =
    let n_passed = to_z-of_z w128 c.args.n c.ranges.n in
    let d_passed = to_z-of_z w128 c.args.d c.ranges.d in
    new_answers c.args.n c.args.d _ _ _ _ _ _ _ _ n_passed d_passed c.requires c.unsigned_abs.ensures.value c.unsigned_abs-2.ensures.value c.lowest-num.ensures.reduced c.differ.ensures c.made.ensures

pub returns-clause-some : goal.returns-clause-some
returns-clause-some c = (answers c).some

pub returns-clause-none : goal.returns-clause-none
returns-clause-none c = (answers c).none
