use Rattle.std.proofs.Common.{rules, ◌≡◌, [], ◌∷◌, ◌++◌, Ok, length, ◌<◌, ◌∙◌}
use Rattle.std.proofs.lemmas.Result.{err_from_is_err_and}
use Rattle.csv.specs.Records.{fields_of}
use Rattle.pc_model.specs.declared.schema.Column.{Column}
use Rattle.pc_model.specs.Refusals.{RefusesAs}
use Rattle.pc_schema.specs.SchemaFile.{column_at, LackName}
use Rattle.pc_schema.proofs.Names.{more_columns}
use Rattle.pc_schema.proofs.Columns.{columns_step, columns_refused}
use Rattle.pc_schema.proofs.schema.read_columns.Goals as goal

pub returns-in_err-column-clause-gives : goal.returns-in_err-column-clause-gives
returns-in_err-column-clause-gives c =
    let columns = c.loop-columns.columns in
    let found : RefusesAs c.in_err-column.field-0.0 (column_at columns (fields_of c.next.new.row)) = rw c.as_slice.ensures at c.in_err-column.ensures.gives in
    let split : c.loop-columns.table ≡ fields_of c.next.new.row ∷ c.next.new.self = c.in_ok-next.ensures.found c.if-branch.true in
    let p = err_from_is_err_and c.from_residual-in_err-column.result c.from_residual-in_err-column.ensures.1 in
    rw (p.1, p.2, c.loop-columns.invariant.gives)
    (columns_refused c.in_err-column.field-0.0 columns c.loop-columns.table c.next.new.self (fields_of c.next.new.row) split found)

pub loop-columns-preserved : goal.loop-columns-preserved
loop-columns-preserved c =
    let columns = c.loop-columns.columns in
    let column : Column = c.in_ok-column.column in
    let pushed : c.push.new.self ≡ columns ++ column ∷ [] = search rules in
    let split : c.loop-columns.table ≡ fields_of c.next.new.row ∷ c.next.new.self = c.in_ok-next.ensures.found c.if-branch.true in
    let found : column_at columns (fields_of c.next.new.row) ≡ Ok column = rw c.as_slice.ensures at c.in_ok-column.ensures.gives in
    let fresh : LackName column.name columns = rw c.as_slice.ensures at c.in_ok-column.ensures.fresh in
    let room : length columns < 12 = rw c.as_slice.ensures at c.in_ok-column.ensures.room in
    rw pushed (record {
      gives = c.loop-columns.invariant.gives ∙ columns_step columns column c.loop-columns.table c.next.new.self (fields_of c.next.new.row) split found;
      are = more_columns columns column c.loop-columns.invariant.are c.in_ok-column.ensures.is_column room fresh;
    })
