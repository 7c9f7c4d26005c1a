-- The elements of a picture, each on a line.
use Rattle.std.specs.Prelude.{ℕ, List, [], ◌∷◌, codes, decimal}
use Rattle.std.specs.List.{concat}
use Rattle.pc_desk_draw.specs.Escapes.{escaped}
use Rattle.pc_desk_draw.specs.declared.elements.Style.{Style}
use Rattle.pc_desk_draw.specs.declared.elements.Style.TheVariants as styles
use Rattle.pc_desk_draw.specs.declared.segment.Tone.{Tone}
use Rattle.pc_desk_draw.specs.declared.segment.Tone.TheVariants as tones

abbrev pub style_text : Style → List ℕ
style_text styles.Plain = codes ">"
style_text styles.Bold = codes " font-weight=\"bold\">"
style_text styles.Grey = codes " fill=\"#777\">"

unfoldable pub text_start : ℕ → ℕ → List ℕ
text_start x y = concat (codes "<text x=\"" ∷ decimal x ∷ codes "\" y=\"" ∷ decimal y ∷ codes "\" xml:space=\"preserve\"" ∷ [])

-- a text whose left end and base line are here
unfoldable pub text_element : ℕ → ℕ → Style → List ℕ → List ℕ
text_element x y style content = concat (text_start x y ∷ style_text style ∷ escaped content ∷ codes "</text>\n" ∷ [])

-- a thin line down all rows, at a tick
unfoldable pub grid_line : ℕ → ℕ → ℕ → List ℕ
grid_line x y height =
    concat (codes "<rect x=\"" ∷ decimal x ∷ codes "\" y=\"" ∷ decimal y ∷ codes "\" width=\"1\" height=\"" ∷ decimal height
    ∷ codes "\" fill=\"#ddd\"/>\n" ∷ [])

-- the bar of a range
unfoldable pub bar : ℕ → ℕ → ℕ → List ℕ
bar x y width =
    concat (codes "<rect x=\"" ∷ decimal x ∷ codes "\" y=\"" ∷ decimal y ∷ codes "\" width=\"" ∷ decimal width
    ∷ codes "\" height=\"6\" fill=\"#48c\"/>\n" ∷ [])

-- the cap of an exact end
unfoldable pub stroke : ℕ → ℕ → List ℕ
stroke x y = concat (codes "<rect x=\"" ∷ decimal x ∷ codes "\" y=\"" ∷ decimal y ∷ codes "\" width=\"2\" height=\"14\" fill=\"#036\"/>\n" ∷ [])

-- the cap of an outer end
unfoldable pub circle : ℕ → ℕ → List ℕ
circle x y = concat (codes "<circle cx=\"" ∷ decimal x ∷ codes "\" cy=\"" ∷ decimal y ∷ codes "\" r=\"4\" fill=\"white\" stroke=\"#036\"/>\n" ∷ [])

-- what the rows that are left come to
unfoldable pub observed_line : ℕ → ℕ → List ℕ
observed_line x y = concat (codes "<rect x=\"" ∷ decimal x ∷ codes "\" y=\"" ∷ decimal y ∷ codes "\" width=\"2\" height=\"20\" fill=\"#d30\"/>\n" ∷ [])

abbrev pub tone_text : Tone → List ℕ
tone_text tones.Grey = codes "#999\"/>\n"
tone_text tones.Blue = codes "#48c\"/>\n"
tone_text tones.Pale = codes "#8be\"/>\n"

unfoldable pub segment_start : ℕ → ℕ → ℕ → List ℕ
segment_start x y width =
    concat (codes "<rect x=\"" ∷ decimal x ∷ codes "\" y=\"" ∷ decimal y ∷ codes "\" width=\"" ∷ decimal width
    ∷ codes "\" height=\"14\" fill=\"" ∷ [])

-- a segment of a bar
unfoldable pub segment : ℕ → ℕ → ℕ → Tone → List ℕ
segment x y width tone = concat (segment_start x y width ∷ tone_text tone ∷ [])
