use Rattle.std.proofs.Common.{◌≡◌, get_or, false, [], pos, to_z, of_z, ap, sym, ◌∙◌, arith}
use Rattle.std.specs.Int.{w128}
use Rattle.std.proofs.lemmas.Int.{ints}
use Rattle.std.proofs.lemmas.List.{get_or_default}
use Rattle.pc_cells.specs.declared.cells.Cell.{Cell}
use Rattle.pc_agg_search.specs.Targets.{cell_at}
use Rattle.pc_avg.proofs.GreatestKeys.{greatest_next}
use Rattle.pc_avg.proofs.outermost.greatest_key.Goals as goal

pub loop-place-preserved : goal.loop-place-preserved
loop-place-preserved c =
    let cells = c.args.cells.now in
    let place = c.loop-place.place in
    let cell = c.index-cells-place.result in
    let key = get_or c.args.keys.now place (pos 0) in
    let same : to_z w128 (of_z w128 key) ≡ key = omega (arith, ints) in
    let is : cell ≡ cell_at cells place = c.index-cells-place.is ∙ get_or_default cells place cell (record { mask = 0; chosen = false; leaves = [] }) c.loop-place-test.true in
    greatest_next cells c.args.keys.now c.args.observed place c.loop-place.greatest c.with_cell-greatest.result cell.chosen (ap (λ (x : Cell). x.chosen) (sym is))
    (rw same at c.with_cell-greatest.ensures) c.loop-place.invariant
