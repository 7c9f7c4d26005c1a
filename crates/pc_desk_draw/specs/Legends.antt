-- What the tones of a picture of bars stand for.
use Rattle.std.specs.Prelude.{ℕ, ◌+◌, max, List, [], ◌∷◌, ◌++◌, Option, Some, None}
use Rattle.std.specs.List.{concat}
use Rattle.pc_desk_draw.specs.declared.elements.Style.TheVariants as styles
use Rattle.pc_desk_draw.specs.declared.segment.Legend.{Legend}
use Rattle.pc_desk_draw.specs.declared.segment.Tone.{Tone}
use Rattle.pc_desk_draw.specs.declared.segment.Tone.TheVariants as tones
use Rattle.pc_desk_draw.specs.declared.size.Size.{Size}
use Rattle.pc_desk_draw.specs.Elements.{segment, text_element}

-- a piece of the tone, and right of it the text
unfoldable pub tone_entry : ℕ → ℕ → Tone → List ℕ → List ℕ
tone_entry left top tone words = segment left (top + 4) 14 tone ++ text_element (left + 20) (top + 15) styles.Grey words

abbrev pub pale_entry : ℕ → Option (List ℕ) → List ℕ
pale_entry top None = []
pale_entry top (Some words) = tone_entry 400 top tones.Pale words

-- what is what, side by side
unfoldable pub legend_of_tones : ℕ → Legend → List ℕ
legend_of_tones top legend =
    concat (tone_entry 16 top tones.Grey legend.grey ∷ tone_entry 228 top tones.Blue legend.blue ∷ pale_entry top legend.pale ∷ [])

abbrev pub legend_width : Option (List ℕ) → ℕ
legend_width None = 360
legend_width (Some words) = 640

-- a size with room for the legend
abbrev pub with_legend : Legend → Size → Size
with_legend legend size = record { width = max size.width (legend_width legend.pale); height = size.height }
