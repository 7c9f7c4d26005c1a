use Rattle.std.proofs.Common.{rules, ◌≡◌, [], ◌∷◌, ◌++◌, Ok, length, ◌<◌, ◌∙◌}
use Rattle.csv.specs.Records.{fields_of}
use Rattle.pc_model.specs.declared.schema.Column.{Column}
use Rattle.pc_schema.specs.SchemaFile.{column_at, LackName}
use Rattle.pc_schema.proofs.Names.{more_columns}
use Rattle.pc_schema.proofs.Telling.{told_here, told_later}
use Rattle.pc_schema.proofs.tell.tell_columns.Goals as goal

pub loop-columns-preserved : goal.loop-columns-preserved
loop-columns-preserved c =
    let columns = c.loop-columns.columns in
    let column : Column = c.in-Ok.column in
    let pushed : c.push.new.self ≡ columns ++ column ∷ [] = search rules in
    let split : c.loop-columns.table ≡ fields_of c.next.new.row ∷ c.next.new.self = c.in_ok-next.ensures.found c.if-branch.true in
    let found : column_at columns (fields_of c.next.new.row) ≡ Ok column = rw c.as_slice.ensures at c.in-Ok.ensures.gives in
    let fresh : LackName column.name columns = rw c.as_slice.ensures at c.in-Ok.ensures.fresh in
    let room : length columns < 12 = rw c.as_slice.ensures at c.in-Ok.ensures.room in
    rw pushed (record {
      same = c.loop-columns.invariant.same ∙ told_later columns c.loop-columns.table c.next.new.self (fields_of c.next.new.row) split column found;
      few = more_columns columns column c.loop-columns.invariant.few c.in-Ok.ensures.is_column room fresh;
    })

pub returns-in-Err-Fault : goal.returns-in-Err-Fault
returns-in-Err-Fault c =
    let columns = c.loop-columns.columns in
    let split : c.loop-columns.table ≡ fields_of c.next.new.row ∷ c.next.new.self = c.in_ok-next.ensures.found c.if-branch.true in
    let found = rw (c.as_slice.ensures, c.in-Err-Fault.field-0-is) at c.in-Err-Fault.ensures.gives in
    rw (c.loop-columns.invariant.same ∙ told_here columns c.loop-columns.table c.next.new.self (fields_of c.next.new.row) split _ found)
    (rw c.as_slice-in-Err-Fault.ensures at c.tell_record.ensures)
