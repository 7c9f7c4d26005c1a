use Rattle.std.proofs.Common.{rules, ◌≡◌, ℤ, [], ◌∷◌, ◌++◌, Ok, Err, get_or, length, length-append, ◌<◌, ◌∙◌, sym, arith}
use Rattle.std.proofs.lemmas.Result.{err_from_is_err_and}
use Rattle.csv.specs.Records.{fields_of}
use Rattle.pc_records.specs.Fields.{field}
use Rattle.pc_rows.specs.RowFile.{cell_of}
use Rattle.pc_rows.proofs.Cells.{cells_step, cells_err}
use Rattle.pc_rows.proofs.read.fill_cells.Goals as goal

pub returns-in_err-cell-clause-answers : goal.returns-in_err-cell-clause-answers
returns-in_err-cell-clause-answers c =
    let columns = c.args.columns.now in
    let places = c.args.places.now in
    let fields = fields_of c.args.fields.now in
    let at = c.loop-place.place in
    let in_columns : at < length columns = omega arith in
    let in_places : at < length places = omega (arith, c.requires.count) in
    let found : cell_of (get_or columns at c.index-columns-place.result).kind (field fields (get_or places at 0)) ≡ Err c.in_err-cell.field-0.0 = rw (← c.index-columns-place.is) (rw c.field.ensures at (sym c.in_err-cell.ensures)) in
    let p = err_from_is_err_and c.from_residual.result c.from_residual.ensures.1 in
    rw (p.1, p.2, c.loop-place.invariant.gives)
    (cells_err c.loop-place.cells columns places fields at c.index-columns-place.result c.in_err-cell.field-0.0 in_columns in_places found)

pub loop-place-preserved : goal.loop-place-preserved
loop-place-preserved c =
    let columns = c.args.columns.now in
    let places = c.args.places.now in
    let fields = fields_of c.args.fields.now in
    let at = c.loop-place.place in
    let cells = c.loop-place.cells in
    let cell : ℤ = c.in_ok-cell.cell in
    let in_columns : at < length columns = omega arith in
    let in_places : at < length places = omega (arith, c.requires.count) in
    let pushed : c.push.new.self ≡ cells ++ cell ∷ [] = search rules in
    let found : cell_of (get_or columns at c.index-columns-place.result).kind (field fields (get_or places at 0)) ≡ Ok cell = rw (← c.index-columns-place.is) (rw c.field.ensures at (sym c.in_ok-cell.ensures)) in
    rw pushed (record {
      gives = c.loop-place.invariant.gives ∙ cells_step cells columns places fields at cell c.index-columns-place.result in_columns in_places found;
      count = omega (arith, length-append cells (cell ∷ []));
    })
