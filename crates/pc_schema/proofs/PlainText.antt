-- A schema's plain text is read as that schema.
use Rattle.std.proofs.Common.{◌≡◌, ◌≤◌, ℕ, List, [], ◌∷◌, ◌++◌, length, map, All, Ok, refl, ap, arith}
use Rattle.std.proofs.lemmas.List.Elements.{All-cons}
use Rattle.csv.specs.Writing.{default_writer, row_text}
use Rattle.pc_model.specs.declared.schema.Column.{Column}
use Rattle.pc_model.specs.declared.schema.Schema.{Schema}
use Rattle.pc_records.specs.Lines.{lines_text}
use Rattle.pc_records.proofs.Lines.{plain_records}
use Rattle.pc_schema.specs.Plain.{IsPlainText, column_fields, plain_text}
use Rattle.pc_schema.specs.SchemaFile.{schema_of}
use Rattle.pc_schema.proofs.PlainFields.{reads_plain_fields}

as_lines : (columns : List Column) → plain_text columns ≡ lines_text (map column_fields columns)
unfolding plain_text lines_text
as_lines [] = refl
as_lines (column ∷ columns) = ap (λ (rest : List ℕ). row_text default_writer (column_fields column) ++ rest) (as_lines columns)

have_fields : (columns : List Column) → All (λ (fields : List (List ℕ)). 1 ≤ length fields) (map column_fields columns)
have_fields [] = λ k d inside. absurd (omega arith)
have_fields (column ∷ columns) = All-cons (λ (fields : List (List ℕ)). 1 ≤ length fields) (column_fields column) (map column_fields columns) (omega arith) (have_fields columns)

pub reads_plain_text : (schema : Schema) → IsPlainText schema → schema_of (plain_text schema.columns) ≡ Ok schema
reads_plain_text schema is =
    let lines = map column_fields schema.columns in
    reads_plain_fields (plain_text schema.columns) (plain_text schema.columns) schema (record {
      well_formed = is.well_formed;
      of_bytes = is.is_text;
      fields = rw (as_lines schema.columns) (plain_records lines (have_fields schema.columns) (rw (as_lines schema.columns) at is.is_text));
    })
