-- What the segments of bars span, and what the rows of a picture of bars have in common.
use Rattle.std.specs.Prelude.{ℕ, max, ℤ, false, List, [], ◌∷◌, chars, Option, Some, None, ⊤}
use Rattle.std.specs.Int.{int_max, int_min}
use Rattle.std.specs.List.{All}
use Rattle.unicode_width.specs.Width.{str_width}
use Rattle.pc_desk_draw.specs.declared.axis.Axis.{Axis}
use Rattle.pc_desk_draw.specs.declared.layout.Layout.{Layout}
use Rattle.pc_desk_draw.specs.declared.segment.BarRow.{BarRow}
use Rattle.pc_desk_draw.specs.declared.segment.Segment.{Segment}
use Rattle.pc_desk_draw.specs.declared.span.Span.{Span}
use Rattle.pc_desk_draw.specs.Axes.{axis_between}
use Rattle.pc_desk_draw.specs.Numbers.{drawn, hull}
use Rattle.pc_desk_draw.specs.Places.{HoldsSpan}

-- from the lesser of two numbers to the greater
abbrev pub between : Option ℤ → Option ℤ → Option Span
between None to = None
between (Some from) None = None
between (Some from) (Some to) = Some (record { low = int_min from to; high = int_max from to })

-- a segment is drawn if both of its ends can be
abbrev pub segment_span : Segment → Option Span
segment_span segment = between (drawn (Some segment.from)) (drawn (Some segment.to))

unfoldable pub segments_span : List Segment → Option Span
segments_span [] = None
segments_span (segment ∷ rest) = hull (segment_span segment) (segments_span rest)

abbrev pub with_row : Option Span → BarRow → Option Span
with_row bounds row = hull bounds (segments_span row.segments)

-- from the least number of a picture to the greatest
unfoldable pub rows_span : List BarRow → Option Span
rows_span [] = None
rows_span (row ∷ rest) = hull (segments_span row.segments) (rows_span rest)

-- how many columns a text takes
abbrev pub text_width : List ℕ → ℕ
text_width text = str_width false (chars text)

unfoldable pub widest_name : List BarRow → ℕ
widest_name [] = 0
widest_name (row ∷ rest) = max (text_width row.name) (widest_name rest)

abbrev pub bars_layout : List BarRow → Layout
bars_layout rows = record { names = Some (widest_name rows); axis = axis_between (rows_span rows) }

-- each segment of a row that is drawn lies on the axis of its picture, if that has one
abbrev pub HoldsSegment : Axis → Segment → Type 0
HoldsSegment axis segment = HoldsSpan axis (segment_span segment)

abbrev pub HoldsRow : Option Axis → BarRow → Type 0
HoldsRow None row = ⊤
HoldsRow (Some axis) row = All (HoldsSegment axis) row.segments
