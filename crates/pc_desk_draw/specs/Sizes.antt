-- How large a picture is, in pixels: 8 for each column of text, 22 for each row.
use Rattle.std.specs.Prelude.{ℕ, ◌+◌, ◌*◌, max, List, [], ◌∷◌, length, Option, Some, None}
use Rattle.pc_desk_table.specs.declared.entry.Entry.{Entry}
use Rattle.pc_desk_draw.specs.declared.axis.Axis.{Axis}
use Rattle.pc_desk_draw.specs.declared.layout.Layout.{Layout}
use Rattle.pc_desk_draw.specs.declared.size.Size.{Size}
use Rattle.pc_desk_draw.specs.Bars.{label_end}
use Rattle.pc_desk_draw.specs.Layouts.{layout_of}
use Rattle.pc_desk_draw.specs.Questions.{title_width}
use Rattle.pc_desk_draw.specs.Texts.{answer_text}

-- where the axis begins, right of the names
abbrev pub left_of : Option ℕ → ℕ
left_of None = 16
left_of (Some width) = 24 + 8 * width

-- the most columns that the values of a block take
unfoldable pub longest : List Entry → ℕ
longest [] = 0
longest (entry ∷ rest) = max (length (answer_text entry)) (longest rest)

-- how far the labels of an axis reach
abbrev pub labels_width : Option Axis → ℕ
labels_width None = 0
labels_width (Some axis) = 8 * label_end axis (axis.steps + 1)

-- room for a title, and for the names, the axis with its labels, and values of so many columns
abbrev pub room : Layout → ℕ → ℕ → ℕ
room layout title columns = max (16 + 8 * title) (left_of layout.names + max (504 + 8 * columns) (labels_width layout.axis))

unfoldable pub width_of : List Entry → ℕ
width_of entries = room (layout_of entries) (title_width entries) (longest entries)

-- the title, the labels, so many rows and an empty one
abbrev pub rows_height : ℕ → ℕ
rows_height rows = 22 * (rows + 3)

abbrev pub height_of : List Entry → ℕ
height_of entries = rows_height (length entries)

-- a size with room for a picture below
abbrev pub widened : Size → ℕ → ℕ → Size
widened size width height = record { width = max size.width width; height = size.height + height }

abbrev pub grown : Size → List Entry → Size
grown size entries = widened size (width_of entries) (height_of entries)

-- a size with room for further pictures below
unfoldable pub grown_by : Size → List (List Entry) → Size
grown_by size [] = size
grown_by size (entries ∷ rest) = grown_by (grown size entries) rest

-- room for the legend
abbrev pub least_size : Size
least_size = record { width = 360; height = 33 }
