-- A table or a sheet, read by csv.
use Rattle.std.specs.Prelude.{ℕ, ◌<◌, ◌≤◌, Bool, List, [], ◌∷◌, All, length, map}
use Rattle.csv.specs.Reading.{AreRecords, default_config, strip_bom}
use Rattle.csv.specs.declared.parser.State.TheVariants as st
use Rattle.pc_desk_table.specs.declared.entry.Entry.{Entry}
use Rattle.pc_desk_table.specs.declared.sheet.Cell.{Cell}
use Rattle.pc_desk_table.specs.declared.sheet.Sheet.{Sheet}
use Rattle.pc_desk_table.specs.declared.sheet.Title.{Title}
use Rattle.pc_desk_table.specs.Sheets.{row_fields, title_cells}
use Rattle.pc_desk_table.specs.Table.{fields_of, has_lines, header}

-- these are the records that csv reads in a text, where it takes no row for a header
unfoldable pub IsReadAs : List ℕ → List (List (List ℕ)) → Type 0
IsReadAs text records = AreRecords default_config st.StartRecord (strip_bom text) records

abbrev pub records_with : Bool → List Entry → List (List (List ℕ))
records_with lined entries = header lined ∷ map (fields_of lined) entries

-- the names of the columns, and then the fields of each entry
unfoldable pub records_of : List Entry → List (List (List ℕ))
records_of entries = records_with (has_lines entries) entries

-- ---- of a sheet

-- its titles, and then the texts of each row
unfoldable pub sheet_rows : Sheet → List (List (List ℕ))
sheet_rows sheet = row_fields (title_cells sheet.titles) ∷ map row_fields sheet.rows

-- a byte of ASCII stands first, as in no mark of an order of bytes
abbrev pub StartsPlain : List ℕ → Type 0
StartsPlain [] = ⊥
StartsPlain (byte ∷ rest) = byte < 128

abbrev pub IsTitled : List Title → Type 0
IsTitled [] = ⊥
IsTitled (title ∷ titles) = StartsPlain title.name

-- a sheet of some titles, of which the first begins plainly, and of rows with some cells
pub record IsSheet (sheet : Sheet) : Type 0 where
  pub titled : IsTitled sheet.titles
  pub filled : All (λ (row : List Cell). 1 ≤ length row) sheet.rows
