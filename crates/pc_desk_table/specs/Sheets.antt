-- A table of findings, and its texts: for reading, as comma-separated values, and as JSON.
use Rattle.std.specs.Prelude.{ℕ, ◌+◌, ◌-◌, ◌==◌, ◌&&◌, not, max, Bool, true, false, List, [], ◌∷◌, ◌++◌, map, fold, get_or, codes, decimal, length, if◌then◌else◌}
use Rattle.std.specs.List.{enumerate_from, flat_map}
use Rattle.csv.specs.Writing.{default_writer, row_text}
use Rattle.serde_json.specs.Data.{Data, null, boolean, number, unsigned, string, array, object, Members, no_members, put}
use Rattle.serde_json.specs.View.{items_of}
use Rattle.serde_json.specs.Written.{compact_text}
use Rattle.pc_desk_table.specs.declared.sheet.Cell.{Cell}
use Rattle.pc_desk_table.specs.declared.sheet.Cell.TheVariants as kinds
use Rattle.pc_desk_table.specs.declared.sheet.Sheet.{Sheet}
use Rattle.pc_desk_table.specs.declared.sheet.Title.{Title}
use Rattle.pc_desk_table.specs.declared.sheet_columns.SheetColumn.{SheetColumn}
use Rattle.pc_desk_table.specs.Lines.{padded, text_width}

-- ---- cells

abbrev pub truth_text : Bool → List ℕ
truth_text true = codes "yes"
truth_text false = codes "no"

-- with a text for what is empty
abbrev pub text_or : List ℕ → Cell → List ℕ
text_or empty kinds.Empty = empty
text_or empty (kinds.Word text) = text
text_or empty (kinds.Count count) = decimal count
text_or empty (kinds.Truth truth) = truth_text truth

-- in a table nothing stands in an empty cell, for reading a dash
abbrev pub cell_text : Cell → List ℕ
cell_text cell = text_or [] cell

abbrev pub cell_shown : Cell → List ℕ
cell_shown cell = text_or (codes "-") cell

abbrev pub cell_at : List Cell → ℕ → Cell
cell_at row place = get_or row place kinds.Empty

-- the titles, as a row that stands before the others
abbrev pub title_cell : Title → Cell
title_cell title = kinds.Word title.name

abbrev pub title_cells : List Title → List Cell
title_cells titles = map title_cell titles

-- ---- a table of comma-separated values

abbrev pub row_fields : List Cell → List (List ℕ)
row_fields row = map cell_text row

abbrev pub sheet_row : List Cell → List ℕ
sheet_row row = row_text default_writer (row_fields row)

-- the titles, and then each row
unfoldable pub sheet_table : Sheet → List ℕ
sheet_table sheet = sheet_row (title_cells sheet.titles) ++ flat_map sheet_row sheet.rows

-- ---- lines for reading

abbrev pub shown_at : List Cell → ℕ → List ℕ
shown_at row place = cell_shown (cell_at row place)

abbrev pub wider_at : ℕ → ℕ → List Cell → ℕ
wider_at place width row = max width (text_width (shown_at row place))

-- a column is as wide as its title or its widest cell
abbrev pub widest_at : ℕ → List ℕ → List (List Cell) → ℕ
widest_at place name rows = fold (wider_at place) (text_width name) rows

-- texts at the left of the last column have nothing behind them, and so no width
abbrev pub is_ragged : ℕ → ℕ → Bool → Bool
is_ragged count place right = not right && (place + 1 == count)

abbrev pub width_at : ℕ → ℕ → Title → List (List Cell) → ℕ
width_at count place title rows = if is_ragged count place title.right then 0 else widest_at place title.name rows

abbrev pub sheet_column : ℕ → List (List Cell) → ℕ × Title → SheetColumn
sheet_column count rows entry = record { place = entry.0; right = entry.1.right; width = width_at count entry.0 entry.1 rows }

abbrev pub sheet_columns : List Title → List (List Cell) → List SheetColumn
sheet_columns titles rows = map (sheet_column (length titles) rows) (enumerate_from 0 titles)

-- two spaces stand before each column but the first
abbrev pub gap_before : ℕ → List ℕ
gap_before place = if place == 0 then [] else codes "  "

abbrev pub text_in : SheetColumn → List ℕ → List ℕ
text_in column text = gap_before column.place ++ padded column.right (column.width - text_width text) text

abbrev pub shown_in : List Cell → SheetColumn → List ℕ
shown_in row column = text_in column (shown_at row column.place)

abbrev pub sheet_line : List SheetColumn → List Cell → List ℕ
sheet_line columns row = flat_map (shown_in row) columns ++ 10 ∷ []

abbrev pub sheet_lines_by : List SheetColumn → Sheet → List ℕ
sheet_lines_by columns sheet = sheet_line columns (title_cells sheet.titles) ++ flat_map (sheet_line columns) sheet.rows

-- a line of titles, and a line for each row
unfoldable pub sheet_lines : Sheet → List ℕ
sheet_lines sheet = sheet_lines_by (sheet_columns sheet.titles sheet.rows) sheet

-- ---- JSON

abbrev pub cell_data : Cell → Data
cell_data kinds.Empty = null
cell_data (kinds.Word text) = string text
cell_data (kinds.Count count) = number (unsigned count)
cell_data (kinds.Truth truth) = boolean truth

abbrev pub put_cell : List Cell → Members → ℕ × Title → Members
put_cell row found entry = put entry.1.name (cell_data (cell_at row entry.0)) found

-- an object, with a member for each title
abbrev pub sheet_row_data : List Title → List Cell → Data
sheet_row_data titles row = object (fold (put_cell row) no_members (enumerate_from 0 titles))

unfoldable pub sheet_data : Sheet → Data
sheet_data sheet = array (items_of (map (sheet_row_data sheet.titles) sheet.rows))

-- the data without a space, and a line feed
unfoldable pub sheet_json : Sheet → List ℕ
sheet_json sheet = compact_text (sheet_data sheet) ++ 10 ∷ []
