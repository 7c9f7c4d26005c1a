-- The text of a schema, as far as a loop has come, and read back.
use Rattle.std.proofs.Common.{◌≡◌, ◌∙◌, ℕ, ◌+◌, ◌<◌, List, [], ◌∷◌, ◌++◌, length, get_or, take, Ok, refl, sym, ap, append_assoc, append-nil}
use Rattle.std.proofs.lemmas.List.{take_more}
use Rattle.csv.specs.Writing.{default_writer, row_text}
use Rattle.pc_model.specs.declared.schema.Column.{Column}
use Rattle.pc_model.specs.declared.schema.Schema.{Schema}
use Rattle.pc_model.specs.Texts.{text_of}
use Rattle.pc_model.specs.WellFormed.{IsWellFormed}
use Rattle.pc_schema.specs.Plain.{column_fields, plain_text}
use Rattle.pc_schema.specs.SchemaFile.{schema_of}
use Rattle.pc_schema.proofs.PlainText.{reads_plain_text}

plain_push : (columns : List Column) (column : Column) → plain_text (columns ++ column ∷ []) ≡ plain_text columns ++ row_text default_writer (column_fields column)
unfolding plain_text
plain_push [] column = append-nil (row_text default_writer (column_fields column))
plain_push (first ∷ columns) column =
    ap (λ (rest : List ℕ). row_text default_writer (column_fields first) ++ rest) (plain_push columns column)
    ∙ sym (append_assoc (row_text default_writer (column_fields first)) (plain_text columns) (row_text default_writer (column_fields column)))

pub plain_more : (columns : List Column) (i : ℕ) (d : Column) → i < length columns → plain_text (take (i + 1) columns) ≡ plain_text (take i columns) ++ row_text default_writer (column_fields (get_or columns i d))
plain_more columns i d inside = ap plain_text (take_more columns i d inside) ∙ plain_push (take i columns) (get_or columns i d)

pub plain_none : plain_text [] ≡ []
unfolding plain_text
plain_none = refl

pub ruleset steps = (plain_more, plain_none)

pub read_back : (schema : Schema) → IsWellFormed schema → text_of (plain_text schema.columns) ≡ Ok (plain_text schema.columns) → schema_of (plain_text schema.columns) ≡ Ok schema
read_back schema formed is = reads_plain_text schema (record { well_formed = formed; is_text = is })
