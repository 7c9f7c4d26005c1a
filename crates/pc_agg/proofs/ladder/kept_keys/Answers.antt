use Rattle.std.proofs.Common.{◌≡◌, get_or, pos, to_z, of_z, ap, ◌∙◌, ◌&&◌, false, [], arith}
use Rattle.std.specs.Int.{w128}
use Rattle.std.proofs.lemmas.Int.{ints}
use Rattle.std.proofs.lemmas.List.{get_or_default}
use Rattle.pc_cells.specs.declared.cells.Cell.{Cell}
use Rattle.pc_agg.specs.Kept.{passes}
use Rattle.pc_agg_search.specs.Targets.{cell_at}
use Rattle.pc_agg.proofs.LadderKeys.{next_keys}
use Rattle.pc_agg.proofs.ladder.kept_keys.Goals as goal

pub loop-place-preserved : goal.loop-place-preserved
loop-place-preserved c =
    let cells = c.args.cells.now in
    let place = c.loop-place.place in
    let cell = c.index-cells-place.result in
    let key = get_or c.args.keys.now place (pos 0) in
    let same : to_z w128 (of_z w128 key) ≡ key = omega (arith, ints) in
    let is : cell ≡ cell_at cells place = c.index-cells-place.is ∙ get_or_default cells place cell (record { mask = 0; chosen = false; leaves = [] }) c.loop-place-test.true in
    next_keys cells c.args.keys.now c.args.test c.args.seen place c.loop-place.kept c.loop-place.invariant c.is_kept-keeps.result c.in_ok-kept.kept
    ((rw same at c.is_kept-keeps.ensures) ∙ ap (λ (x : Cell). x.chosen && passes c.args.test c.args.seen key) is)
    (rw same at c.in_ok-kept.ensures)
