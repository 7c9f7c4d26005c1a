-- How large pictures of bars are, in pixels.
use Rattle.std.specs.Prelude.{ℕ, max, List, [], ◌∷◌, length}
use Rattle.pc_desk_draw.specs.declared.segment.BarPicture.{BarPicture}
use Rattle.pc_desk_draw.specs.declared.segment.BarRow.{BarRow}
use Rattle.pc_desk_draw.specs.declared.size.Size.{Size}
use Rattle.pc_desk_draw.specs.Segments.{bars_layout, text_width}
use Rattle.pc_desk_draw.specs.Sizes.{room, rows_height, widened}

-- the most columns that a text right of the axis takes
unfoldable pub widest_text : List BarRow → ℕ
widest_text [] = 0
widest_text (row ∷ rest) = max (text_width row.text) (widest_text rest)

abbrev pub bars_width : BarPicture → ℕ
bars_width picture =
    room (bars_layout picture.rows) (text_width picture.title) (widest_text picture.rows)

abbrev pub bars_height : BarPicture → ℕ
bars_height picture = rows_height (length picture.rows)

-- a size with room for further pictures below
unfoldable pub stacked : Size → List BarPicture → Size
stacked size [] = size
stacked size (picture ∷ rest) =
    stacked (widened size (bars_width picture) (bars_height picture)) rest
