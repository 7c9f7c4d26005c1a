-- The whole chart.
use Rattle.std.specs.Prelude.{ℕ, ◌+◌, List, [], ◌∷◌, ◌++◌, codes, Option, Some, None}
use Rattle.std.specs.List.{concat, flat_map}
use Rattle.pc_desk_table.specs.declared.entry.Entry.{Entry}
use Rattle.pc_desk_draw.specs.declared.axis.Axis.{Axis}
use Rattle.pc_desk_draw.specs.declared.layout.Layout.{Layout}
use Rattle.pc_desk_draw.specs.Bars.{labelled, ruled, spaces}
use Rattle.pc_desk_draw.specs.Layouts.{layout_of}
use Rattle.pc_desk_draw.specs.Questions.{pictures_of, title_of}
use Rattle.pc_desk_draw.specs.Rows.{row_text}

-- how far the axis begins to the right
abbrev pub indent : Option ℕ → List ℕ
indent None = spaces 3
indent (Some width) = spaces width ++ spaces 5

-- the numbers of the ticks, and the axis below them
unfoldable pub axis_lines : Option ℕ → Axis → List ℕ
axis_lines names axis =
    concat (indent names ∷ labelled axis (axis.steps + 1) ∷ (10 ∷ []) ∷ indent names ∷ ruled axis (axis.steps + 1) ∷ (10 ∷ []) ∷ [])

abbrev pub axis_text : Layout → Option Axis → List ℕ
axis_text layout None = []
axis_text layout (Some axis) = axis_lines layout.names axis

-- the question, the axis, a line for each block, and an empty one
unfoldable pub part_text : List Entry → List ℕ
part_text entries =
    concat (title_of entries ∷ (10 ∷ []) ∷ axis_text (layout_of entries) (layout_of entries).axis
    ∷ flat_map (row_text (layout_of entries)) entries ∷ (10 ∷ []) ∷ [])

-- what is what
abbrev pub legend : List ℕ
legend = codes "[ ] exact   ( ) outer   | the rows that are left\n"

-- the pictures, and the legend below them
unfoldable pub chart_text : List Entry → List ℕ
chart_text [] = []
chart_text (entry ∷ rest) = flat_map part_text (pictures_of (entry ∷ rest)) ++ legend
