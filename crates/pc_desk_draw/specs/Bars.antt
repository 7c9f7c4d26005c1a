-- The bar of a block and the axis above it, column by column.
use Rattle.std.specs.Prelude.{ℕ, zero, suc, ◌+◌, ◌-◌, ◌==◌, ◌&&◌, ◌||◌, not, nat_lt, Bool, false, List, [], ◌∷◌, ◌++◌, codes, length, replicate, Option, Some, None, if◌then◌else◌}
use Rattle.std.specs.List.{concat}
use Rattle.pc_desk_table.specs.declared.entry.Mark.{Mark}
use Rattle.pc_desk_table.specs.declared.entry.Mark.TheVariants as marks
use Rattle.pc_desk_draw.specs.declared.axis.Axis.{Axis}
use Rattle.pc_desk_draw.specs.declared.place.Bar.{Bar}
use Rattle.pc_desk_draw.specs.declared.place.Drawing.{Drawing}
use Rattle.pc_desk_draw.specs.Axes.{tick_number}
use Rattle.pc_desk_draw.specs.Places.{tick_place}
use Rattle.pc_desk_draw.specs.Texts.{number_text}

-- places run from 0 to this
abbrev pub last_place : ℕ
last_place = 60

-- `[` and `]` where an end is exact, `(` and `)` where it is outer
abbrev pub low_cap : Mark → ℕ
low_cap marks.Exact = 91
low_cap marks.Outer = 40

abbrev pub high_cap : Mark → ℕ
high_cap marks.Exact = 93
high_cap marks.Outer = 41

-- a place has the column after it, so that caps stand outside of the places of a bar
abbrev pub bar_cell : Option Bar → ℕ → ℕ
bar_cell None column = 32
bar_cell (Some bar) column =
    if column == bar.low then low_cap bar.low_mark
    else if column == bar.high + 2 then high_cap bar.high_mark
    else if nat_lt bar.low column && nat_lt column (bar.high + 2) then 61 else 32

abbrev pub is_place_of : Option ℕ → ℕ → Bool
is_place_of None column = false
is_place_of (Some place) column = column == place + 1

abbrev pub is_cap : Option Bar → ℕ → Bool
is_cap None column = false
is_cap (Some bar) column = (column == bar.low) || (column == bar.high + 2)

-- what stands in a column: `|` for the rows that are left, which hides no cap, else the bar
unfoldable pub cell : Drawing → ℕ → ℕ
cell drawing column = if is_place_of drawing.observed column && not (is_cap drawing.bar column) then 124 else bar_cell drawing.bar column

unfoldable pub cells : Drawing → ℕ → List ℕ
cells drawing zero = []
cells drawing (suc columns) = cells drawing columns ++ cell drawing columns ∷ []

abbrev pub spaces : ℕ → List ℕ
spaces count = replicate count 32

-- a line that goes on with a text in a column
abbrev pub with_text : ℕ → List ℕ → ℕ → List ℕ → List ℕ
with_text fill line column text = concat (line ∷ replicate (column - length line) fill ∷ text ∷ [])

-- the axis up to a tick: `+` at each
unfoldable pub ruled : Axis → ℕ → List ℕ
ruled axis zero = []
ruled axis (suc ticks) = with_text 45 (ruled axis ticks) (tick_place axis last_place ticks) (codes "+")

-- the text of a tick
abbrev pub tick_text : Axis → ℕ → List ℕ
tick_text axis tick = number_text (tick_number axis tick)

-- the first column in which a further label may begin, after one that is left out where the one before reaches as far
abbrev pub end_put : ℕ → ℕ → ℕ → ℕ
end_put end place len = if nat_lt place end then end else place + len + 1

-- .. after those of so many ticks
unfoldable pub label_end : Axis → ℕ → ℕ
label_end axis zero = 0
label_end axis (suc ticks) = end_put (label_end axis ticks) (tick_place axis last_place ticks) (length (tick_text axis ticks))

-- a label begins at its tick
abbrev pub label_put : List ℕ → ℕ → ℕ → List ℕ → List ℕ
label_put line end place text = if nat_lt place end then line else with_text 32 line place text

-- the labels of so many ticks
unfoldable pub labelled : Axis → ℕ → List ℕ
labelled axis zero = []
labelled axis (suc ticks) = label_put (labelled axis ticks) (label_end axis ticks) (tick_place axis last_place ticks) (tick_text axis ticks)
