-- The plain fields of rows.
use Rattle.std.specs.Prelude.{◌≡◌, ◌≤◌, ℕ, ℤ, unsigned_abs, List, [], ◌∷◌, length, map, get_or, Ok}
use Rattle.std.specs.List.{AllPass}
use Rattle.csv.specs.Reading.{default_config, records, strip_bom}
use Rattle.pc_num.specs.Put.{scaled_text}
use Rattle.pc_model.specs.declared.row.Row.{Row}
use Rattle.pc_model.specs.declared.schema.Kind.{Kind}
use Rattle.pc_model.specs.declared.schema.Kind.TheVariants.{Int, Dec, Cat}
use Rattle.pc_model.specs.declared.schema.Column.{Column}
use Rattle.pc_model.specs.declared.schema.Schema.{Schema}
use Rattle.pc_model.specs.Membership.{in_domain}
use Rattle.pc_model.specs.Texts.{text_of}
use Rattle.pc_model.specs.WellFormed.{IsWellFormed}
use Rattle.pc_records.specs.Lines.{lines_text}
use Rattle.pc_records.specs.Plain.{HasPlainLines, plain_lines, split_at_commas}
use Rattle.pc_rows.specs.Stored.{row_limit}

-- a number of a column of this kind: of a column of names, the name at that place
abbrev pub cell_field : Kind → ℤ → List ℕ
cell_field (Int low high) number = scaled_text number 0
cell_field (Dec scale low high) number = scaled_text number scale
cell_field (Cat names) number = get_or names (unsigned_abs number) []

-- the numbers of a row, column by column
unfoldable pub row_fields : List Column → List ℤ → List (List ℕ)
row_fields [] cells = []
row_fields (column ∷ columns) [] = []
row_fields (column ∷ columns) (cell ∷ cells) = cell_field column.kind cell ∷ row_fields columns cells

abbrev pub header_fields : List Column → List (List ℕ)
header_fields columns = map (λ (column : Column). column.name) columns

-- the names of the columns, and then the rows
abbrev pub table_fields : Schema → List Row → List (List (List ℕ))
table_fields schema rows = header_fields schema.columns ∷ map (λ (row : Row). row_fields schema.columns row.cells) rows

-- rows of the domain, and not too many
pub record AreOf (schema : Schema) (rows : List Row) : Type 0 where
  pub well_formed : IsWellFormed schema
  pub few : length rows ≤ row_limit
  pub inside : AllPass (in_domain schema) rows

-- the records of a file are the plain fields of rows of the domain, in quotes or not
pub record SpellsPlainly (bytes text : List ℕ) (schema : Schema) (rows : List Row) : Type 0 where
  pub own : AreOf schema rows
  pub of_bytes : text_of bytes ≡ Ok text
  pub fields : records default_config (strip_bom text) ≡ table_fields schema rows

-- the lines of a file without quotes and lone CR, split at their commas, are the plain fields of rows of the domain
pub record SpellsByLines (bytes text : List ℕ) (schema : Schema) (rows : List Row) : Type 0 where
  pub own : AreOf schema rows
  pub of_bytes : text_of bytes ≡ Ok text
  pub plain : HasPlainLines (strip_bom text)
  pub fields : map split_at_commas (plain_lines (strip_bom text)) ≡ table_fields schema rows

-- the plain fields, line by line, in quotes where a name calls for them
abbrev pub plain_text : Schema → List Row → List ℕ
plain_text schema rows = lines_text (table_fields schema rows)

-- a file of that text: it is not too long, and begins with no mark
pub record IsPlainText (schema : Schema) (rows : List Row) : Type 0 where
  pub own : AreOf schema rows
  pub is_text : text_of (plain_text schema rows) ≡ Ok (plain_text schema rows)
