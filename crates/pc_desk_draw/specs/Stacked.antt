-- Pictures of bars whose segments stand one behind the other.
use Rattle.std.specs.Prelude.{ℕ, ◌+◌, ◌-◌, List, [], ◌∷◌, ◌++◌, codes, length, Option, Some, None}
use Rattle.std.specs.List.{concat, flat_map}
use Rattle.pc_desk_draw.specs.declared.axis.Axis.{Axis}
use Rattle.pc_desk_draw.specs.declared.elements.Style.TheVariants as styles
use Rattle.pc_desk_draw.specs.declared.layout.Layout.{Layout}
use Rattle.pc_desk_draw.specs.declared.segment.BarPicture.{BarPicture}
use Rattle.pc_desk_draw.specs.declared.segment.BarRow.{BarRow}
use Rattle.pc_desk_draw.specs.declared.segment.Legend.{Legend}
use Rattle.pc_desk_draw.specs.declared.segment.Segment.{Segment}
use Rattle.pc_desk_draw.specs.declared.segment.Tone.{Tone}
use Rattle.pc_desk_draw.specs.declared.size.Size.{Size}
use Rattle.pc_desk_draw.specs.declared.span.Span.{Span}
use Rattle.pc_desk_draw.specs.BarSizes.{bars_height, stacked}
use Rattle.pc_desk_draw.specs.Elements.{segment, text_element}
use Rattle.pc_desk_draw.specs.Legends.{legend_of_tones, with_legend}
use Rattle.pc_desk_draw.specs.Pictures.{background, svg_start}
use Rattle.pc_desk_draw.specs.Places.{place_of}
use Rattle.pc_desk_draw.specs.Segments.{bars_layout, segment_span}
use Rattle.pc_desk_draw.specs.Shapes.{axis_above, last_pixel}
use Rattle.pc_desk_draw.specs.Sizes.{least_size, left_of}

-- what is drawn from one number to another, in a row whose top is here, on an axis that begins here
abbrev pub span_element : Axis → ℕ → ℕ → Tone → Option Span → List ℕ
span_element axis top left tone None = []
span_element axis top left tone (Some span) =
    segment (left + place_of axis last_pixel span.low) (top + 4)
    (place_of axis last_pixel span.high - place_of axis last_pixel span.low + 1) tone

abbrev pub segment_element : Axis → ℕ → ℕ → Segment → List ℕ
segment_element axis top left one = span_element axis top left one.tone (segment_span one)

abbrev pub segments_elements : Axis → ℕ → ℕ → List Segment → List ℕ
segments_elements axis top left segments = flat_map (segment_element axis top left) segments

-- the segments of a row, and the text right of the axis; where there is no axis, the text alone
abbrev pub bar_elements : ℕ → ℕ → Option Axis → BarRow → List ℕ
bar_elements top left None row = text_element left (top + 15) styles.Plain row.text
bar_elements top left (Some axis) row =
    segments_elements axis top left row.segments
    ++ text_element (left + 496) (top + 15) styles.Plain row.text

unfoldable pub bar_row : Layout → ℕ → BarRow → List ℕ
bar_row layout top row =
    text_element 8 (top + 15) styles.Plain row.name
    ++ bar_elements top (left_of layout.names) layout.axis row

-- rows, one below the other
unfoldable pub bar_rows : Layout → ℕ → List BarRow → List ℕ
bar_rows layout top [] = []
bar_rows layout top (row ∷ rest) = bar_row layout top row ++ bar_rows layout (top + 22) rest

-- the lines at the ticks, and the rows before them
abbrev pub bars_body : Layout → ℕ → List BarRow → List ℕ
bars_body layout top rows = axis_above layout top (length rows) ++ bar_rows layout (top + 44) rows

-- the title, the axis, and a row for each bar
unfoldable pub bars_part : ℕ → BarPicture → List ℕ
bars_part top picture =
    text_element 8 (top + 15) styles.Bold picture.title
    ++ bars_body (bars_layout picture.rows) top picture.rows

-- the pictures, one below the other
unfoldable pub bars_from : ℕ → List BarPicture → List ℕ
bars_from top [] = []
bars_from top (picture ∷ rest) = bars_part top picture ++ bars_from (top + bars_height picture) rest

-- the pictures begin below a margin, and the legend ends above one
abbrev pub sized_bars : Size → Legend → List BarPicture → List ℕ
sized_bars size legend pictures =
    concat (svg_start size.width size.height ∷ background size.width size.height
    ∷ bars_from 5 pictures ∷ legend_of_tones (size.height - 28) legend ∷ codes "</svg>\n" ∷ [])

unfoldable pub bars_text : Legend → List BarPicture → List ℕ
bars_text legend pictures = sized_bars (with_legend legend (stacked least_size pictures)) legend pictures
