-- The plain fields of a schema.
use Rattle.std.specs.Prelude.{◌≡◌, ℕ, pos, List, [], ◌∷◌, ◌++◌, map, codes, Ok}
use Rattle.csv.specs.Reading.{default_config, records, strip_bom}
use Rattle.csv.specs.Writing.{default_writer, row_text}
use Rattle.pc_num.specs.Put.{scaled_text}
use Rattle.pc_model.specs.declared.schema.Kind.{Kind}
use Rattle.pc_model.specs.declared.schema.Kind.TheVariants.{Int, Dec, Cat}
use Rattle.pc_model.specs.declared.schema.Column.{Column}
use Rattle.pc_model.specs.declared.schema.Schema.{Schema}
use Rattle.pc_model.specs.Texts.{text_of}
use Rattle.pc_model.specs.WellFormed.{IsWellFormed}
use Rattle.pc_records.specs.Plain.{HasPlainLines, plain_lines, split_at_commas}

abbrev pub kind_fields : Kind → List (List ℕ)
kind_fields (Int low high) = codes "int" ∷ scaled_text low 0 ∷ scaled_text high 0 ∷ []
kind_fields (Dec scale low high) = codes "dec" ∷ scaled_text (pos scale) 0 ∷ scaled_text low scale ∷ scaled_text high scale ∷ []
kind_fields (Cat names) = codes "cat" ∷ names

abbrev pub column_fields : Column → List (List ℕ)
column_fields column = column.name ∷ kind_fields column.kind

-- the records of a file are the plain fields of a well-formed schema, in quotes or not
pub record SpellsPlainly (bytes text : List ℕ) (schema : Schema) : Type 0 where
  pub well_formed : IsWellFormed schema
  pub of_bytes : text_of bytes ≡ Ok text
  pub fields : records default_config (strip_bom text) ≡ map column_fields schema.columns

-- the lines of a file without quotes and lone CR, split at their commas, are the plain fields of a well-formed schema
pub record SpellsByLines (bytes text : List ℕ) (schema : Schema) : Type 0 where
  pub well_formed : IsWellFormed schema
  pub of_bytes : text_of bytes ≡ Ok text
  pub plain : HasPlainLines (strip_bom text)
  pub fields : map split_at_commas (plain_lines (strip_bom text)) ≡ map column_fields schema.columns

-- the plain fields, line by line, in quotes where a name calls for them
unfoldable pub plain_text : List Column → List ℕ
plain_text [] = []
plain_text (column ∷ columns) = row_text default_writer (column_fields column) ++ plain_text columns

-- a file of that text: it is not too long, and begins with no mark
pub record IsPlainText (schema : Schema) : Type 0 where
  pub well_formed : IsWellFormed schema
  pub is_text : text_of (plain_text schema.columns) ≡ Ok (plain_text schema.columns)
