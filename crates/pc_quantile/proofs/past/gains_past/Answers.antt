use Rattle.std.proofs.Common.{◌≡◌, ℤ, pos, Bool, false, cond, int_lt, get_or, to_z, of_z, ap, [], ◌∙◌, arith}
use Rattle.std.specs.Int.{w128}
use Rattle.std.proofs.lemmas.Int.{ints}
use Rattle.std.proofs.lemmas.List.{get_or_default}
use Rattle.pc_cells.specs.declared.cells.Cell.{Cell}
use Rattle.pc_agg_search.specs.Targets.{cell_at}
use Rattle.pc_simplex_tableau.proofs.Tables.{table_made}
use Rattle.pc_quantile.specs.Passing.{inner_gain, outer_gain, passing_gain}
use Rattle.pc_quantile.proofs.PastPrograms.{gain_small}
use Rattle.pc_quantile.proofs.past.gains_past.Goals as goal

pub loop-cell-preserved : goal.loop-cell-preserved
loop-cell-preserved c =
    let cells = c.args.cells.now in
    let place = c.loop-cell.cell in
    let cell = c.index-cells-cell.result in
    let own = get_or c.args.keys.now place (pos 0) in
    let same : to_z w128 (of_z w128 own) ≡ own = omega (arith, ints) in
    let is : get_or cells place cell ≡ cell_at cells place = get_or_default cells place cell (record { mask = 0; chosen = false; leaves = [] }) c.loop-cell-test.true in
    let asked = c.args.asked.now in
    let extreme = c.args.extreme in
    let key = to_z w128 (of_z w128 c.args.key) in
    let made = λ (chosen : Bool) (other : ℤ). cond chosen (cond (int_lt key other) (outer_gain asked extreme) (inner_gain asked extreme)) (pos 0) in
    let chosen = (get_or cells place cell).chosen in
    let small = gain_small asked c.requires.share extreme chosen (int_lt key (to_z w128 (of_z w128 own))) in
    let gain = made chosen (to_z w128 (of_z w128 own)) in
    let whole : to_z w128 (of_z w128 gain) ≡ gain = omega (arith, ints, small) in
    c.in_ok-push.ensures.ok
    ∙ table_made c.loop-cell.gains place (passing_gain asked extreme cells c.args.keys.now key) (to_z w128 (of_z w128 c.gain_at.result)) c.loop-cell.invariant
    (ap (λ (g : ℤ). to_z w128 (of_z w128 g)) c.gain_at.ensures ∙ whole ∙ ap (λ (x : Cell). made x.chosen (to_z w128 (of_z w128 own))) is ∙ ap (made (cell_at cells place).chosen) same)
