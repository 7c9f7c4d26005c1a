-- The row of a block, and the axis above the rows.
use Rattle.std.specs.Prelude.{ℕ, zero, suc, ◌+◌, ◌-◌, ◌*◌, nat_lt, List, [], ◌∷◌, ◌++◌, Option, Some, None, if◌then◌else◌}
use Rattle.std.specs.List.{concat}
use Rattle.pc_desk_table.specs.declared.entry.Entry.{Entry}
use Rattle.pc_desk_table.specs.declared.entry.Group.{Group}
use Rattle.pc_desk_table.specs.declared.entry.Mark.{Mark}
use Rattle.pc_desk_table.specs.declared.entry.Mark.TheVariants as marks
use Rattle.pc_desk_draw.specs.declared.axis.Axis.{Axis}
use Rattle.pc_desk_draw.specs.declared.layout.Layout.{Layout}
use Rattle.pc_desk_draw.specs.declared.place.Bar.{Bar}
use Rattle.pc_desk_draw.specs.declared.place.Drawing.{Drawing}
use Rattle.pc_desk_draw.specs.declared.elements.Style.TheVariants as styles
use Rattle.pc_desk_draw.specs.Bars.{label_end, last_place, tick_text}
use Rattle.pc_desk_draw.specs.Elements.{bar, circle, grid_line, observed_line, stroke, text_element}
use Rattle.pc_desk_draw.specs.Places.{drawing_of, tick_place}
use Rattle.pc_desk_draw.specs.Sizes.{left_of}
use Rattle.pc_desk_draw.specs.Texts.{answer_text}

-- an axis is so many pixels long
abbrev pub last_pixel : ℕ
last_pixel = 480

-- a stroke where an end is exact, a hollow circle where it is outer
abbrev pub cap : ℕ → ℕ → Mark → List ℕ
cap x top marks.Exact = stroke x (top + 4)
cap x top marks.Outer = circle x (top + 11)

-- a bar with its caps, in a row whose top is here, on an axis that begins here
unfoldable pub bar_elements : ℕ → ℕ → Option Bar → List ℕ
bar_elements top left None = []
bar_elements top left (Some shape) =
    concat (bar (left + shape.low) (top + 8) (shape.high - shape.low + 1) ∷ cap (left + shape.low) top shape.low_mark
    ∷ cap (left + shape.high) top shape.high_mark ∷ [])

abbrev pub observed_element : ℕ → ℕ → Option ℕ → List ℕ
observed_element top left None = []
observed_element top left (Some place) = observed_line (left + place) (top + 1)

-- the line for what the rows that are left come to is longer than a cap, which may stand on it
abbrev pub drawing_elements : ℕ → ℕ → Drawing → List ℕ
drawing_elements top left drawing = observed_element top left drawing.observed ++ bar_elements top left drawing.bar

abbrev pub name_element : ℕ → Option Group → List ℕ
name_element top None = []
name_element top (Some group) = text_element 8 (top + 15) styles.Plain group.name

-- the values of a block, or a word, right of its bar
abbrev pub answer_elements : ℕ → ℕ → Option Axis → Entry → List ℕ
answer_elements top left None entry = text_element left (top + 15) styles.Plain (answer_text entry)
answer_elements top left (Some axis) entry =
    drawing_elements top left (drawing_of axis last_pixel entry) ++ text_element (left + 496) (top + 15) styles.Plain (answer_text entry)

unfoldable pub row_elements : Layout → ℕ → Entry → List ℕ
row_elements layout top entry = name_element top entry.group ++ answer_elements top (left_of layout.names) layout.axis entry

-- the rows of blocks, one below the other
unfoldable pub rows_from : Layout → ℕ → List Entry → List ℕ
rows_from layout top [] = []
rows_from layout top (entry ∷ rest) = row_elements layout top entry ++ rows_from layout (top + 22) rest

-- a label begins at its tick, and is left out where the one before reaches as far
abbrev pub label_shown : ℕ → ℕ → ℕ → ℕ → List ℕ → List ℕ
label_shown end place top left label = if nat_lt place end then [] else text_element (left + 8 * place) (top + 15) styles.Grey label

-- a tick: its line down all rows, and its label above them
abbrev pub tick_elements : Axis → ℕ → ℕ → ℕ → ℕ → List ℕ
tick_elements axis top left height tick =
    grid_line (left + tick_place axis last_pixel tick) (top + 20) height
    ++ label_shown (label_end axis tick) (tick_place axis last_place tick) top left (tick_text axis tick)

unfoldable pub ticks_elements : Axis → ℕ → ℕ → ℕ → ℕ → List ℕ
ticks_elements axis top left height zero = []
ticks_elements axis top left height (suc ticks) = ticks_elements axis top left height ticks ++ tick_elements axis top left height ticks

abbrev pub axis_elements : Option Axis → ℕ → ℕ → ℕ → List ℕ
axis_elements None top left height = []
axis_elements (Some axis) top left height = ticks_elements axis top left height (axis.steps + 1)

-- .. in a picture with so many rows whose top is here
abbrev pub axis_above : Layout → ℕ → ℕ → List ℕ
axis_above layout top rows = axis_elements layout.axis (top + 22) (left_of layout.names) (22 * rows + 4)
