-- The whole picture.
use Rattle.std.specs.Prelude.{ℕ, ◌+◌, ◌-◌, List, [], ◌∷◌, ◌++◌, codes, decimal, length}
use Rattle.std.specs.List.{concat}
use Rattle.pc_desk_table.specs.declared.entry.Entry.{Entry}
use Rattle.pc_desk_draw.specs.declared.elements.Style.TheVariants as styles
use Rattle.pc_desk_draw.specs.declared.layout.Layout.{Layout}
use Rattle.pc_desk_draw.specs.declared.size.Size.{Size}
use Rattle.pc_desk_draw.specs.Elements.{circle, observed_line, stroke, text_element}
use Rattle.pc_desk_draw.specs.Layouts.{layout_of}
use Rattle.pc_desk_draw.specs.Questions.{pictures_of, title_of}
use Rattle.pc_desk_draw.specs.Shapes.{axis_above, rows_from}
use Rattle.pc_desk_draw.specs.Sizes.{grown_by, height_of, least_size}

-- the lines at the ticks, and the rows before them
abbrev pub body_text : Layout → ℕ → List Entry → List ℕ
body_text layout top entries = axis_above layout top (length entries) ++ rows_from layout (top + 44) entries

-- the question, the axis, and a row for each block
unfoldable pub part_elements : ℕ → List Entry → List ℕ
part_elements top entries = text_element 8 (top + 15) styles.Bold (title_of entries) ++ body_text (layout_of entries) top entries

-- the pictures, one below the other
unfoldable pub parts_from : ℕ → List (List Entry) → List ℕ
parts_from top [] = []
parts_from top (entries ∷ rest) = part_elements top entries ++ parts_from (top + height_of entries) rest

unfoldable pub legend_exact : ℕ → List ℕ
legend_exact top = stroke 16 (top + 4) ++ text_element 24 (top + 15) styles.Grey (codes "exact")

unfoldable pub legend_outer : ℕ → List ℕ
legend_outer top = circle 90 (top + 11) ++ text_element 100 (top + 15) styles.Grey (codes "outer")

unfoldable pub legend_observed : ℕ → List ℕ
legend_observed top = observed_line 164 (top + 1) ++ text_element 172 (top + 15) styles.Grey (codes "the rows that are left")

-- what is what, at the bottom
abbrev pub legend_at : ℕ → List ℕ
legend_at top = concat (legend_exact top ∷ legend_outer top ∷ legend_observed top ∷ [])

unfoldable pub svg_start : ℕ → ℕ → List ℕ
svg_start width height =
    concat (codes "<svg xmlns=\"http://www.w3.org/2000/svg\" width=\"" ∷ decimal width ∷ codes "\" height=\"" ∷ decimal height
    ∷ codes "\" viewBox=\"0 0 " ∷ decimal width ∷ codes " " ∷ decimal height ∷ codes "\" font-family=\"monospace\" font-size=\"13\">\n" ∷ [])

unfoldable pub background : ℕ → ℕ → List ℕ
background width height =
    concat (codes "<rect width=\"" ∷ decimal width ∷ codes "\" height=\"" ∷ decimal height ∷ codes "\" fill=\"white\"/>\n" ∷ [])

-- the pictures begin below a margin, and the legend ends above one
abbrev pub sized_text : Size → List Entry → List ℕ
sized_text size entries =
    concat (svg_start size.width size.height ∷ background size.width size.height ∷ parts_from 5 (pictures_of entries)
    ∷ legend_at (size.height - 28) ∷ codes "</svg>\n" ∷ [])

unfoldable pub picture_text : List Entry → List ℕ
picture_text entries = sized_text (grown_by least_size (pictures_of entries)) entries
