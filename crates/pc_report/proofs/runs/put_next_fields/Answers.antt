use Rattle.std.proofs.Common.{◌≡◌, pos, get_or, arith, w64, to_z, of_z, ◌∙◌}
use Rattle.std.proofs.lemmas.Int.{ints}
use Rattle.pc_report.proofs.Fields.{fields_step}
use Rattle.pc_report.proofs.runs.put_next_fields.Goals as goal

pub loop-place-preserved : goal.loop-place-preserved
loop-place-preserved c =
    let column = c.index-columns-place.result in
    let cell = get_or c.args.cells.now c.loop-place.place (pos 0) in
    let same : to_z w64 (of_z w64 cell) ≡ cell = omega (arith, ints) in
    let written = rw (same, c.index-columns-place.is) at c.in_ok-put_next_field.ensures in
    rw written (fields_step c.loop-place.out.items c.args.columns.now c.args.cells.now c.loop-place.place column (pos 0) c.loop-place-test.true c.if-cells-place.false ∙ c.loop-place.invariant)
