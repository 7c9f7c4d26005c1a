use Rattle.std.proofs.Common.{◌≡◌, ◌∙◌, List, length, ap, sym, arith}
use Rattle.pc_model.specs.declared.row.Row.{Row}
use Rattle.pc_gen.specs.Draws.{after}
use Rattle.pc_gen.proofs.DrawnRows.{after_more, length_rows, no_rows, rows_alike, rows_step}
use Rattle.pc_gen.proofs.Stepping.{after_none}
use Rattle.pc_gen.proofs.rows.draw_rows.Goals as goal

pub loop-init : goal.loop-init
loop-init c = record {
  rows = c.new-rows.ensures ∙ sym (no_rows c.args.draws.now.state);
  state = sym (after_none c.args.draws.now.state);
}

pub push_cells-requires-clause-few : goal.push_cells-requires-clause-few
push_cells-requires-clause-few c =
    let same : length c.loop.rows ≡ c.loop.counter = ap (λ (rows : List Row). length rows) c.loop.invariant.rows ∙ length_rows c.loop.counter c.args.draws.now.state in
    omega (arith, c.loop-test.true, c.requires.few)

pub push_cells-requires-clause-alike : goal.push_cells-requires-clause-alike
push_cells-requires-clause-alike c = rows_alike c.loop.rows c.loop.counter c.args.draws.now.state c.loop.draws.state c.draw_cells-cells.result c.loop.invariant.rows c.draw_cells-cells.ensures.cells

pub loop-preserved : goal.loop-preserved
loop-preserved c = record {
  rows = c.in_ok-push_cells.ensures.ok ∙ rows_step c.loop.rows c.loop.counter c.args.draws.now.state c.loop.draws.state c.draw_cells-cells.result c.loop.invariant.rows c.loop.invariant.state c.draw_cells-cells.ensures.cells;
  state = c.draw_cells-cells.ensures.state ∙ ap (after 3) c.loop.invariant.state ∙ after_more c.loop.counter c.args.draws.now.state;
}
