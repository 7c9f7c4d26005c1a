use Rattle.std.proofs.Common.{◌≡◌, suc, ◌+◌, pos, get_or, to_z, of_z, ap, ◌∙◌, arith}
use Rattle.std.specs.Int.{w128}
use Rattle.std.proofs.lemmas.Int.{ints}
use Rattle.pc_program_bound.specs.Sums.{int_at}
use Rattle.pc_agg_search.specs.declared.want.Want.TheVariants as wants
use Rattle.pc_agg_search.specs.Ends.{signed}
use Rattle.pc_quantile.specs.Measure.{cells_for}
use Rattle.pc_quantile.specs.Past.{least_past, program_past}
use Rattle.pc_quantile.proofs.climb.passing_after.Goals as goal

pub returns-clause-program : goal.returns-clause-program
returns-clause-program c =
    let m = c.args.measure.now in
    let rungs = c.args.ladder.now.rungs in
    let next : c.args.place + 1 ≡ suc c.args.place = omega arith in
    let key = get_or c.as_slice.result.now (c.args.place + 1) (pos 0) in
    let read : to_z w128 (of_z w128 key) ≡ key = omega (arith, ints) in
    let is : key ≡ int_at rungs (suc c.args.place) = ap (λ list. get_or list (c.args.place + 1) (pos 0)) c.as_slice.ensures ∙ ap (int_at rungs) next in
    c.in_ok-program.ensures.program ∙ ap (λ k. program_past (cells_for m) c.args.ladder.now.extreme m.asked.now (signed c.args.ladder.now.extreme k)) (read ∙ is)

pub returns-clause-want : goal.returns-clause-want
returns-clause-want c =
    let m = c.args.measure.now in
    let extreme = c.args.ladder.now.extreme in
    let rungs = c.args.ladder.now.rungs in
    let next : c.args.place + 1 ≡ suc c.args.place = omega arith in
    let key = get_or c.as_slice.result.now (c.args.place + 1) (pos 0) in
    let read : to_z w128 (of_z w128 key) ≡ key = omega (arith, ints) in
    let is : key ≡ int_at rungs (suc c.args.place) = ap (λ list. get_or list (c.args.place + 1) (pos 0)) c.as_slice.ensures ∙ ap (int_at rungs) next in
    let number : to_z w128 (of_z w128 c.number_of-number.result) ≡ c.number_of-number.result = omega (arith, ints, c.number_of-number.ensures.small) in
    let least : to_z w128 (of_z w128 c.least_past.result) ≡ c.least_past.result = omega (arith, ints, c.least_past.type_inv) in
    ap wants.From (least ∙ c.least_past.ensures ∙ ap (λ v. least_past extreme m.asked.now v m.seen.now) (number ∙ c.number_of-number.ensures.number ∙ ap (signed extreme) (read ∙ is)))
