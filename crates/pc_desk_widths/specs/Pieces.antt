-- Two ranges on one axis, as pieces of a bar: what is in both, and what in one alone.
use Rattle.std.specs.Prelude.{◌≡◌, ℤ, int_le, int_lt, ◌&&◌, ◌||◌, Bool, true, false, List, [], ◌∷◌, ◌++◌, Option, Some, None, if◌then◌else◌}
use Rattle.std.specs.Int.{int_max, int_min}
use Rattle.std.specs.List.{list_any}
use Rattle.pc_desk_draw.specs.declared.segment.Segment.{Segment}
use Rattle.pc_desk_draw.specs.declared.segment.Tone.{Tone}
use Rattle.pc_desk_draw.specs.declared.segment.Tone.TheVariants.{Blue, Grey, Pale}
use Rattle.pc_desk_widths.specs.declared.pieces.Ends.{Ends}

abbrev pub piece : ℤ → ℤ → Tone → Segment
piece from to tone = record { from = from; to = to; tone = tone }

abbrev pub are_apart : Ends → Ends → Bool
are_apart standing other = int_lt standing.high other.low || int_lt other.high standing.low

abbrev pub apart_pieces : Ends → Ends → List Segment
apart_pieces standing other = piece standing.low standing.high Grey ∷ piece other.low other.high Pale ∷ []

-- from the lesser to the greater of two ends, if they differ, in the tone of the first where the first is less
abbrev pub edge_pieces : Tone × Tone → ℤ → ℤ → List Segment
edge_pieces tones from to =
    if int_lt from to then piece from to tones.0 ∷ [] else (if int_lt to from then piece to from tones.1 ∷ [] else [])

-- what both have, and on either side what one has alone: the range that stands in grey, the other pale
abbrev pub crossing_pieces : Ends → Ends → List Segment
crossing_pieces standing other =
    (edge_pieces (Grey, Pale) standing.low other.low
    ++ piece (int_max standing.low other.low) (int_min standing.high other.high) Blue ∷ [])
    ++ edge_pieces (Grey, Pale) other.high standing.high

abbrev pub pieces_of : Ends → Ends → List Segment
pieces_of standing other = if are_apart standing other then apart_pieces standing other else crossing_pieces standing other

abbrev pub ranges_pieces : Option Ends → Option Ends → List Segment
ranges_pieces None None = []
ranges_pieces None (Some other) = piece other.low other.high Pale ∷ []
ranges_pieces (Some standing) None = piece standing.low standing.high Grey ∷ []
ranges_pieces (Some standing) (Some other) = pieces_of standing other

-- ---- what pieces tell

abbrev pub lies_in : ℤ → Ends → Bool
lies_in number ends = int_le ends.low number && int_le number ends.high

abbrev pub lies_on : ℤ → Segment → Bool
lies_on number segment = int_le segment.from number && int_le number segment.to

-- the range that stands is grey and blue, the other blue and pale
abbrev pub tells_standing : Tone → Bool
tells_standing Grey = true
tells_standing Blue = true
tells_standing Pale = false

abbrev pub tells_other : Tone → Bool
tells_other Grey = false
tells_other Blue = true
tells_other Pale = true

-- a number is in the range that stands where it lies on a grey or blue piece, and in the other where it lies on a blue or pale one
pub record PiecesTell (standing other : Ends) (pieces : List Segment) (number : ℤ) : Type 0 where
  pub stands : list_any (λ (segment : Segment). tells_standing segment.tone && lies_on number segment) pieces ≡ lies_in number standing
  pub changed : list_any (λ (segment : Segment). tells_other segment.tone && lies_on number segment) pieces ≡ lies_in number other
