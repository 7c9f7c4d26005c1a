-- The bars of explanations: a row for each end, and below it one for each part.
use Rattle.std.specs.Prelude.{◌≡◌, ℕ, ◌+◌, ◌-◌, ◌^◌, ◌%◌, ◌==◌, ◌&&◌, ℤ, pos, ◌+ℤ◌, ◌*ℤ◌, nat_le, unsigned_abs, Bool, List, [], ◌∷◌, ◌++◌, codes, decimal, flat_map, map, Option, Some, None, if◌then◌else◌}
use Rattle.std.specs.List.{concat}
use Rattle.pc_model.specs.declared.constraint.Constraint.{Constraint}
use Rattle.pc_desk_draw.specs.declared.segment.BarPicture.{BarPicture}
use Rattle.pc_desk_draw.specs.declared.segment.BarRow.{BarRow}
use Rattle.pc_desk_draw.specs.declared.segment.Legend.{Legend}
use Rattle.pc_desk_draw.specs.declared.segment.Segment.{Segment}
use Rattle.pc_desk_draw.specs.declared.segment.Tone.{Tone}
use Rattle.pc_desk_draw.specs.declared.segment.Tone.TheVariants as tones
use Rattle.pc_desk_parts.specs.declared.part.Adds.{Adds}
use Rattle.pc_desk_parts.specs.declared.part.Adds.TheVariants.{Amount, Nothing, Stands}
use Rattle.pc_desk_parts.specs.declared.part.Part.{Part}
use Rattle.pc_desk_parts.specs.Sums.{amount_of}
use Rattle.pc_desk_short.specs.declared.clash_line.ClashLine.{ClashLine}
use Rattle.pc_desk_table.specs.Texts.{shown}
use Rattle.pc_desk_why.specs.declared.explained.Explained.{Explained}
use Rattle.pc_desk_why.specs.declared.explained.Found.{Found}
use Rattle.pc_desk_why.specs.declared.explained.Found.TheVariants.{Ends, Impossible, NoValue}
use Rattle.pc_desk_why.specs.declared.explained.MadeEnd.{MadeEnd}
use Rattle.pc_desk_why.specs.declared.explained.MadeEnd.TheVariants.{NotReached, Parts}
use Rattle.pc_desk_why.specs.Texts.{names_text, number_text, stand_word}

-- ---- texts

abbrev pub rows_word : ℕ → List ℕ
rows_word rows = if rows == 1 then codes " row" else codes " rows"

abbrev pub value_words : Option ℤ → ℕ → List ℕ
value_words None places = []
value_words (Some number) places = codes " of " ++ number_text number places

abbrev pub under_words : List Constraint → Option (List ℕ) → List ℕ
under_words constraints None = codes "observed"
under_words constraints (Some places) = names_text constraints places

-- `1094 rows: observed`, `129 rows of 60.00: harbour`
unfoldable pub part_words : List Constraint → ℕ → Part → List ℕ
part_words constraints places part =
    concat (decimal part.rows ∷ rows_word part.rows ∷ value_words part.value places ∷ codes ": " ∷ under_words constraints part.under ∷ [])

abbrev pub added_text : Adds → ℕ → List ℕ
added_text Nothing places = []
added_text (Amount amount) places = number_text amount places
added_text (Stands stand) places = stand_word stand

-- ---- running totals

-- totals up to this size are drawn
abbrev pub limit : ℕ
limit = 10 ^ 31

abbrev pub is_drawn : ℤ → Bool
is_drawn number = nat_le (unsigned_abs number) limit

abbrev pub total_with : ℤ → ℤ → Option ℤ
total_with total amount = if is_drawn amount && is_drawn (total +ℤ amount) then Some (total +ℤ amount) else None

-- the total after what one part more adds
abbrev pub total_after : Option ℤ → Adds → Option ℤ
total_after None adds = None
total_after (Some total) adds = total_with total (amount_of adds)

-- nothing is summed where the ends are not what the parts add
abbrev pub start_of : Bool → Option ℤ
start_of sums = if sums then Some (pos 0) else None

-- .. after what all parts add
unfoldable pub total_of : Option ℤ → List Part → Option ℤ
total_of total [] = total
total_of total (part ∷ parts) = total_of (total_after total part.adds) parts

abbrev pub total_text : Option ℤ → ℕ → List ℕ
total_text None places = []
total_text (Some total) places = number_text total places

-- ---- segments

abbrev pub millionths : ℕ → ℤ → ℤ
millionths places number = number *ℤ pos (10 ^ (6 - places))

-- neighbours differ
abbrev pub tone_of : ℕ → Option (List ℕ) → Tone
tone_of place None = tones.Grey
tone_of place (Some under) = if place % 2 == 0 then tones.Pale else tones.Blue

abbrev pub segment_between : ℕ → Tone → ℤ → ℤ → Segment
segment_between places tone before after = record { from = millionths places before; to = millionths places after; tone = tone }

-- from one total to the next, where both are drawn
abbrev pub segments_between : ℕ → Tone → Option ℤ → Option ℤ → List Segment
segments_between places tone None after = []
segments_between places tone (Some before) None = []
segments_between places tone (Some before) (Some after) = segment_between places tone before after ∷ []

-- ---- rows

-- of the part at a place of its end, between these totals
unfoldable pub part_row : List Constraint → ℕ → ℕ → Part → Option ℤ → Option ℤ → BarRow
part_row constraints places place part before after = record {
  name = shown (part_words constraints places part);
  text = added_text part.adds places;
  segments = segments_between places (tone_of place part.under) before after;
}

-- of parts, the first of which has this place and begins at this total
unfoldable pub part_rows : List Constraint → ℕ → ℕ → Option ℤ → List Part → List BarRow
part_rows constraints places place total [] = []
part_rows constraints places place total (part ∷ parts) =
    part_row constraints places place part total (total_after total part.adds)
    ∷ part_rows constraints places (place + 1) (total_after total part.adds) parts

-- .. of all parts of an end
abbrev pub rows_of_parts : List Constraint → Explained → List Part → List BarRow
rows_of_parts constraints told parts = part_rows constraints told.places 0 (start_of told.sums) parts

abbrev pub all_segments : List BarRow → List Segment
all_segments rows = flat_map (λ (row : BarRow). row.segments) rows

-- of an end: all segments of its parts, one behind the other, and what they come to
unfoldable pub end_row : Explained → List ℕ → List Part → List BarRow → BarRow
end_row told end parts rows = record {
  name = end;
  text = total_text (total_of (start_of told.sums) parts) told.places;
  segments = all_segments rows;
}

abbrev pub said_row : List ℕ → List ℕ → BarRow
said_row name text = record { name = name; text = text; segments = [] }

abbrev pub end_rows : List Constraint → Explained → List ℕ → MadeEnd → List BarRow
end_rows constraints told end (Parts parts) =
    end_row told end parts (rows_of_parts constraints told parts) ∷ rows_of_parts constraints told parts
end_rows constraints told end NotReached = said_row end (codes "not reached") ∷ []

abbrev pub line_row : ClashLine → BarRow
line_row line = said_row line.under line.held

abbrev pub found_rows : List Constraint → List ClashLine → Explained → Found → List BarRow
found_rows constraints lines told (Ends low high) = end_rows constraints told (codes "low") low ++ end_rows constraints told (codes "high") high
found_rows constraints lines told NoValue = said_row [] (codes "no value") ∷ []
found_rows constraints lines told Impossible = map line_row lines

-- ---- pictures

abbrev pub for_group : Option (List ℕ) → List ℕ
for_group None = []
for_group (Some name) = codes " for " ++ name

unfoldable pub title_bytes : Explained → List ℕ
title_bytes told = told.query ++ for_group told.group

unfoldable pub picture_of : List Constraint → List ClashLine → Explained → BarPicture
picture_of constraints lines told =
    record { title = shown (title_bytes told); rows = found_rows constraints lines told told.found }

-- of each answer one picture
abbrev pub why_bars : List Constraint → List ClashLine → List Explained → List BarPicture
why_bars constraints lines all = map (picture_of constraints lines) all

-- lost rows have two tones, so that neighbours differ
abbrev pub why_legend : Legend
why_legend = record { grey = codes "the rows that are left"; blue = codes "lost rows"; pale = None }

-- ---- what segments say

-- each segment begins where the one before it ends, the first at one number and the last ends at another
abbrev pub Lead : ℤ → List Segment → ℤ → Type 0
Lead from [] to = from ≡ to
Lead from (segment ∷ rest) to = (segment.from ≡ from) × Lead segment.to rest to
