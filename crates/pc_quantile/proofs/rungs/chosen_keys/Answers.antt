use Rattle.std.proofs.Common.{◌≡◌, get_or, pos, to_z, of_z, ap, false, [], arith}
use Rattle.std.specs.Int.{w128}
use Rattle.std.proofs.lemmas.Int.{ints}
use Rattle.std.proofs.lemmas.List.{get_or_default}
use Rattle.pc_cells.specs.declared.cells.Cell.{Cell}
use Rattle.pc_agg_search.specs.Targets.{cell_at}
use Rattle.pc_quantile.proofs.ChosenKeys.{next_keys}
use Rattle.pc_quantile.proofs.rungs.chosen_keys.Goals as goal

pub loop-place-preserved : goal.loop-place-preserved
loop-place-preserved c =
    let cells = c.args.cells.now in
    let place = c.loop-place.place in
    let cell = c.index-cells-place.result in
    let key = get_or c.args.keys.now place (pos 0) in
    let same : to_z w128 (of_z w128 key) ≡ key = omega (arith, ints) in
    let is : get_or cells place cell ≡ cell_at cells place = get_or_default cells place cell (record { mask = 0; chosen = false; leaves = [] }) c.loop-place-test.true in
    next_keys cells c.args.keys.now place c.loop-place.chosen c.loop-place.invariant (get_or cells place cell).chosen (ap (λ (x : Cell). x.chosen) is) c.in_ok-chosen.chosen (rw same at c.in_ok-chosen.ensures)
