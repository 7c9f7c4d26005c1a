use Rattle.std.proofs.Common.{unsigned_abs, ap, ◌∙◌, ◌*ℤ◌}
use Rattle.pc_num.proofs.Signed.{passed}
use Rattle.pc_num.proofs.Quotients.{AnswersQuotient, mul_answers}
use Rattle.pc_num.proofs.fraction.Frac.mul.Goals as goal

answers : (c : goal.After-made_product) → AnswersQuotient (c.args.self.now.num *ℤ c.args.other.now.num) (c.args.self.now.den *ℤ c.args.other.now.den) c.made_product.result
answers c =
    let f = c.args.self.now in
    let h = c.args.other.now in
    let own = c.requires.own in
    let others = c.requires.others in
    mul_answers f h _ _ _ _ _ _ _ _ _ _ _ _ own others (passed f.num own.num_fits) (passed h.num others.num_fits)
    (c.unsigned_abs.ensures.value ∙ ap unsigned_abs (passed f.num own.num_fits))
    (c.unsigned_abs-4.ensures.value ∙ ap unsigned_abs (passed f.den own.den_fits))
    (c.unsigned_abs-3.ensures.value ∙ ap unsigned_abs (passed h.num others.num_fits))
    (c.unsigned_abs-2.ensures.value ∙ ap unsigned_abs (passed h.den others.den_fits))
    c.lowest-a.ensures.reduced c.lowest-c.ensures.reduced c.differ.ensures c.made_product.ensures

pub returns-clause-some : goal.returns-clause-some
returns-clause-some c = (answers c).some

pub returns-clause-none : goal.returns-clause-none
returns-clause-none c = (answers c).none
