-- The lines for reading: aligned columns, and remarks.
use Rattle.std.specs.Prelude.{ℕ, ◌-◌, max, Bool, true, false, List, [], ◌∷◌, ◌++◌, map, fold, replicate, chars, codes, Option, Some, None}
use Rattle.std.specs.List.{flat_map, list_any}
use Rattle.unicode_width.specs.Width.{str_width}
use Rattle.pc_desk_table.specs.declared.columns.Column.{Column}
use Rattle.pc_desk_table.specs.declared.columns.Column.TheVariants as are
use Rattle.pc_desk_table.specs.declared.columns.Placed.{Placed}
use Rattle.pc_desk_table.specs.declared.entry.Entry.{Entry}
use Rattle.pc_desk_table.specs.declared.entry.Group.{Group}
use Rattle.pc_desk_table.specs.declared.entry.Range.{Range}
use Rattle.pc_desk_table.specs.declared.entry.Value.{Value}
use Rattle.pc_desk_table.specs.Remarks.{ends_of, high_decimal, remarks_of, remarks_text}
use Rattle.pc_desk_table.specs.Table.{group_name, has_lines, line_text}

abbrev pub is_grouped : Option Group → Bool
is_grouped None = false
is_grouped (Some group) = true

abbrev pub has_group : Entry → Bool
has_group entry = is_grouped entry.group

abbrev pub has_groups : List Entry → Bool
has_groups entries = list_any has_group entries

-- lines and groups have a column only where there are some
abbrev pub columns : Bool → Bool → List Column
columns true true = are.Line ∷ are.Query ∷ are.Group ∷ are.Left ∷ are.Low ∷ are.High ∷ []
columns true false = are.Line ∷ are.Query ∷ are.Left ∷ are.Low ∷ are.High ∷ []
columns false true = are.Query ∷ are.Group ∷ are.Left ∷ are.Low ∷ are.High ∷ []
columns false false = are.Query ∷ are.Left ∷ are.Low ∷ are.High ∷ []

abbrev pub title : Column → List ℕ
title are.Line = codes "line"
title are.Query = codes "query"
title are.Group = codes "group"
title are.Left = codes "left"
title are.Low = codes "low"
title are.High = codes "high"

-- numbers stand at the right of their column
abbrev pub is_right : Column → Bool
is_right are.Line = true
is_right are.Query = false
is_right are.Group = false
is_right are.Left = true
is_right are.Low = true
is_right are.High = true

-- two spaces stand after each column but the last
abbrev pub gap_after : Column → List ℕ
gap_after are.Line = codes "  "
gap_after are.Query = codes "  "
gap_after are.Group = codes "  "
gap_after are.Left = codes "  "
gap_after are.Low = codes "  "
gap_after are.High = []

abbrev pub left_text : Option Value → List ℕ
left_text None = codes "-"
left_text (Some value) = value.decimal

abbrev pub low_text : Option Range → List ℕ
low_text None = codes "-"
low_text (Some range) = range.low.value.decimal

abbrev pub high_text : Option Range → List ℕ
high_text None = codes "-"
high_text (Some range) = high_decimal range

-- what stands in a column
abbrev pub cell : Column → Entry → List ℕ
cell are.Line entry = line_text entry.line
cell are.Query entry = entry.query
cell are.Group entry = group_name entry.group
cell are.Left entry = left_text entry.observed
cell are.Low entry = low_text (ends_of entry)
cell are.High entry = high_text (ends_of entry)

-- how many columns of a terminal a text takes
abbrev pub text_width : List ℕ → ℕ
text_width text = str_width false (chars text)

abbrev pub wider : Column → ℕ → Entry → ℕ
wider column width entry = max width (text_width (cell column entry))

-- a column is as wide as its widest cell, or its title
abbrev pub widest : Column → List Entry → ℕ
widest column entries = fold (wider column) (text_width (title column)) entries

abbrev pub placed : List Entry → Column → Placed
placed entries column = record { column = column; width = widest column entries }

abbrev pub layout_with : List Entry → List Column → List Placed
layout_with entries columns = map (placed entries) columns

abbrev pub layout : List Entry → List Placed
layout entries = layout_with entries (columns (has_lines entries) (has_groups entries))

abbrev pub spaces : ℕ → List ℕ
spaces room = replicate room 32

abbrev pub padded : Bool → ℕ → List ℕ → List ℕ
padded true room text = spaces room ++ text
padded false room text = text ++ spaces room

-- a text in its column
abbrev pub cell_in : Placed → List ℕ → List ℕ
cell_in place text = padded (is_right place.column) (place.width - text_width text) text ++ gap_after place.column

abbrev pub title_in : Placed → List ℕ
title_in place = cell_in place (title place.column)

abbrev pub entry_in : Entry → Placed → List ℕ
entry_in entry place = cell_in place (cell place.column entry)

abbrev pub titles_text : List Placed → List ℕ
titles_text places = flat_map title_in places ++ 10 ∷ []

abbrev pub entry_text : List Placed → Entry → List ℕ
entry_text places entry = (flat_map (entry_in entry) places ++ remarks_text (remarks_of entry)) ++ 10 ∷ []

abbrev pub lines_with : List Placed → List Entry → List ℕ
lines_with places entries = titles_text places ++ flat_map (entry_text places) entries

-- a line of titles, and a line for each entry
unfoldable pub lines_text : List Entry → List ℕ
lines_text entries = lines_with (layout entries) entries
