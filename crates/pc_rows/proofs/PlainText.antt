-- The plain text of rows is read as those rows.
use Rattle.std.proofs.Common.{◌≡◌, ◌≤◌, ℕ, List, [], ◌∷◌, length, map, All, true, Ok, arith}
use Rattle.std.specs.List.{AllPass}
use Rattle.std.proofs.lemmas.List.{length-map}
use Rattle.std.proofs.lemmas.List.Elements.{All-cons, All-tail}
use Rattle.pc_model.specs.declared.row.Row.{Row}
use Rattle.pc_model.specs.declared.schema.Column.{Column}
use Rattle.pc_model.specs.declared.schema.Schema.{Schema}
use Rattle.pc_model.specs.Membership.{in_domain}
use Rattle.pc_records.proofs.Lines.{plain_records}
use Rattle.pc_rows.specs.Plain.{IsPlainText, header_fields, plain_text, row_fields, table_fields}
use Rattle.pc_rows.specs.RowFile.{rows_of}
use Rattle.pc_rows.proofs.PlainFields.{allowed_row, fields_length, reads_plain_fields}

-- a record has a field
abbrev HasField : List (List ℕ) → Type 0
HasField fields = 1 ≤ length fields

rows_have : (schema : Schema) (rows : List Row) → 1 ≤ length schema.columns → AllPass (in_domain schema) rows → All HasField (map (λ (own : Row). row_fields schema.columns own.cells) rows)
rows_have schema [] some inside = λ k d below. absurd (omega arith)
rows_have schema (own ∷ rows) some inside =
    let full = fields_length schema.columns own.cells (allowed_row schema own (inside 0 own (omega arith))) in
    All-cons HasField (row_fields schema.columns own.cells) (map (λ (own : Row). row_fields schema.columns own.cells) rows) (omega (arith, full)) (rows_have schema rows some (All-tail (λ (other : Row). in_domain schema other ≡ true) own rows inside))

lines_have : (schema : Schema) (rows : List Row) → 1 ≤ length schema.columns → AllPass (in_domain schema) rows → All HasField (table_fields schema rows)
lines_have schema rows some inside =
    All-cons HasField (header_fields schema.columns) (map (λ (own : Row). row_fields schema.columns own.cells) rows) (omega (arith, length-map schema.columns (λ (column : Column). column.name))) (rows_have schema rows some inside)

pub reads_plain_text : (schema : Schema) (rows : List Row) → IsPlainText schema rows → rows_of schema (plain_text schema rows) ≡ Ok rows
reads_plain_text schema rows is =
    reads_plain_fields (plain_text schema rows) (plain_text schema rows) schema rows (record {
      own = is.own;
      of_bytes = is.is_text;
      fields = plain_records (table_fields schema rows) (lines_have schema rows is.own.well_formed.some is.own.inside) is.is_text;
    })
