use Rattle.std.proofs.Common.{cond, ◌∙◌, ◌<◌, ◌++◌, length, [], ◌∷◌, ap, sym, arith}
use Rattle.pc_model.specs.Aggregate.{asked}
use Rattle.pc_model.specs.Membership.{is_in}
use Rattle.pc_rows.specs.Stored.{row_at}
use Rattle.pc_rows.proofs.Asking.{few_numbers, numbers_more, numbers_all}
use Rattle.pc_rows.proofs.rows.Rows.numbers.Goals as goal

pub loop-place-preserved : goal.loop-place-preserved
loop-place-preserved c =
    let below : c.loop-place.place < length c.args.self.now = omega (arith, c.loop-place-test.true, c.count-place-end.ensures.counted) in
    let test = is_in c.args.query.now.chosen (row_at c.args.self.now c.loop-place.place) in
    let extra = asked c.args.query.now (row_at c.args.self.now c.loop-place.place) in
    c.in_ok-numbers.ensures ∙ ap (λ before. cond test (before ++ extra ∷ []) before) c.loop-place.invariant ∙ sym (numbers_more c.args.query.now c.args.self.now c.loop-place.place below)

pub returns-clause-numbers : goal.returns-clause-numbers
returns-clause-numbers c = c.loop-place.invariant ∙ numbers_all c.args.query.now c.args.self.now c.loop-place.place (omega (arith, c.loop-place-test.false, c.count-place-end.ensures.counted))

pub returns-clause-few : goal.returns-clause-few
returns-clause-few c =
    let all = c.loop-place.invariant ∙ numbers_all c.args.query.now c.args.self.now c.loop-place.place (omega (arith, c.loop-place-test.false, c.count-place-end.ensures.counted)) in
    rw all (omega (arith, few_numbers c.args.query.now c.args.self.now, c.count-place-end.ensures.counted, c.count-place-end.ensures.few))
