use Rattle.std.proofs.Common.{◌≡◌, ◌∙◌, ◌<◌, length, ap, cond, pos, to_z, of_z, arith}
use mir.Syntax.{w128}
use Rattle.std.proofs.lemmas.Int.{ints}
use Rattle.std.proofs.lemmas.List.{get_or_read}
use Rattle.pc_program.specs.Settled.{is_in}
use Rattle.pc_nested.proofs.Building.{repriced_more}
use Rattle.pc_nested.proofs.pricing.with_price.Goals as goal

pub loop-cell-preserved : goal.loop-cell-preserved
loop-cell-preserved c =
    let p = c.args.p.now in
    let cell = c.loop-cell.cell in
    let items = c.loop-cell.prices.items in
    let same : to_z w128 (of_z w128 c.price_for.result) ≡ c.price_for.result = omega (arith, ints) in
    let there : cell < length items = omega (arith, c.loop-cell.invariant.long, c.requires.sized, c.loop-cell-test.true, c.len-cell-end.ensures) in
    let kept : to_z w128 (of_z w128 c.index.result.now) ≡ c.index.result.now = omega (arith, ints) in
    let read = get_or_read items cell c.index.result.now there c.index.ensures (pos 0) in
    rw same (repriced_more p c.args.place c.args.prices (to_z w128 (of_z w128 c.args.price)) cell items c.price_for.result c.loop-cell.invariant there
    (c.price_for.ensures ∙ ap (λ x. cond (is_in p cell c.args.place) (to_z w128 (of_z w128 c.args.price)) x) (kept ∙ read)))
