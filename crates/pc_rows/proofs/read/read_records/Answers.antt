use Rattle.std.proofs.Common.{rules, ◌≡◌, ℤ, List, [], ◌∷◌, ◌++◌, Ok, length, ◌∙◌}
use Rattle.std.proofs.lemmas.List.Elements.{All-push}
use Rattle.std.proofs.lemmas.Result.{err_from_is_err_and}
use Rattle.csv.specs.Records.{fields_of}
use Rattle.pc_model.specs.declared.row.Row.{Row}
use Rattle.pc_model.specs.Membership.{row_from as row}
use Rattle.pc_model.specs.Refusals.{RefusesAs}
use Rattle.pc_rows.specs.RowFile.{cells_at}
use Rattle.pc_rows.proofs.Reading.{rows_step, rows_refused}
use Rattle.pc_rows.proofs.read.read_records.Goals as goal

pub returns-in_err-cells-clause-gives : goal.returns-in_err-cells-clause-gives
returns-in_err-cells-clause-gives c =
    let columns = c.args.columns.now in
    let places = c.args.places.now in
    let rows = c.loop-cells.rows in
    let split : c.loop-cells.table ≡ fields_of c.next.new.row ∷ c.next.new.self = c.in_ok-next.ensures.found c.if-branch.true in
    let found : RefusesAs c.in_err-cells.field-0.0 (cells_at columns places c.args.width (length rows) (fields_of c.next.new.row)) = rw c.count.ensures.counted at c.in_err-cells.ensures.gives in
    let p = err_from_is_err_and c.from_residual-in_err-cells.result c.from_residual-in_err-cells.ensures.1 in
    rw (p.1, p.2, c.loop-cells.invariant.gives)
    (rows_refused columns places c.args.width c.in_err-cells.field-0.0 rows c.loop-cells.table c.next.new.self (fields_of c.next.new.row) split found)

pub loop-cells-preserved : goal.loop-cells-preserved
loop-cells-preserved c =
    let columns = c.args.columns.now in
    let places = c.args.places.now in
    let rows = c.loop-cells.rows in
    let cells : List ℤ = c.in_ok-cells.cells in
    let split : c.loop-cells.table ≡ fields_of c.next.new.row ∷ c.next.new.self = c.in_ok-next.ensures.found c.if-branch.true in
    let found : cells_at columns places c.args.width (length rows) (fields_of c.next.new.row) ≡ Ok cells = rw c.count.ensures.counted at c.in_ok-cells.ensures.gives in
    let pushed : c.push_cells.new.self ≡ rows ++ row cells ∷ [] = search rules in
    rw pushed (record {
      gives = c.loop-cells.invariant.gives ∙ rows_step columns places c.args.width rows cells c.loop-cells.table c.next.new.self (fields_of c.next.new.row) split found;
      wide = All-push (λ (other : Row). length other.cells ≡ length columns) rows (row cells) c.loop-cells.invariant.wide c.in_ok-cells.ensures.wide;
    })
