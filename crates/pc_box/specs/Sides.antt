-- Boxes side by side: what two have in common, and what one leaves of the other.
use Rattle.std.specs.Prelude.{ℤ, pos, ◌+ℤ◌, ◌-ℤ◌, int_le, int_lt, ◌&&◌, ◌==◌, Bool, false, if◌then◌else◌, List, [], ◌∷◌, ◌++◌, Option, Some, None, is_some, unwrap_or}
use Rattle.std.specs.Cmp.Lexicographic.{pointwise}
use Rattle.pc_model.specs.declared.region.Side.{Side}
use Rattle.pc_model.specs.declared.region.Side.TheVariants.{Span, Names}
use Rattle.pc_model.specs.declared.region.Region.{Region}
use Rattle.pc_model.specs.Places.{places_outside}
use Rattle.pc_model.specs.Regions.{meet_sides, set_unless_empty}

-- whether two sides of one column have a number in common
abbrev pub sides_meet : Side → Side → Bool
sides_meet side other = is_some (meet_sides side other)

unfoldable pub regions_meet : Region → Region → Bool
regions_meet a b = pointwise sides_meet a.sides b.sides

-- whether each number of a side is in another
unfoldable pub is_within : Side → Side → Bool
is_within (Span low high) (Span other_low other_high) = int_le other_low low && int_le high other_high
is_within (Span low high) (Names bits) = false
is_within (Names bits) (Span low high) = false
is_within (Names bits) (Names other_bits) = places_outside bits other_bits == 0

unfoldable pub region_within : Region → Region → Bool
region_within a b = pointwise is_within a.sides b.sides

-- what two sides that meet have in common
abbrev pub common_side : Side → Side → Side
common_side side other = unwrap_or (meet_sides side other) side

abbrev pub common_sides : List Side → List Side → List Side
common_sides [] others = []
common_sides (side ∷ sides) [] = []
common_sides (side ∷ sides) (other ∷ others) = common_side side other ∷ common_sides sides others

-- the common box, if there is one
abbrev pub common_region : Region → Region → Option Region
common_region a b = if regions_meet a b then Some (record { sides = common_sides a.sides b.sides }) else None

-- the numbers from `low` on that are less than an end, and those up to `high` that are greater
abbrev pub span_below : ℤ → ℤ → Option Side
span_below low end = if int_lt low end then Some (Span low (end -ℤ pos 1)) else None

abbrev pub span_above : ℤ → ℤ → Option Side
span_above end high = if int_lt end high then Some (Span (end +ℤ pos 1) high) else None

-- what lies below the other side, and of a set what is not in the other
unfoldable pub lower_rest : Side → Side → Option Side
lower_rest (Span low high) (Span other_low other_high) = span_below low other_low
lower_rest (Span low high) (Names bits) = None
lower_rest (Names bits) (Span low high) = None
lower_rest (Names bits) (Names other_bits) = set_unless_empty (places_outside bits other_bits)

-- what lies above the other side
unfoldable pub upper_rest : Side → Side → Option Side
upper_rest (Span low high) (Span other_low other_high) = span_above other_high high
upper_rest (Span low high) (Names bits) = None
upper_rest (Names bits) side = None

-- the box with this side between the others, if there is such a side
unfoldable pub box_with : List Side → Option Side → List Side → List Region
box_with front None back = []
box_with front (Some side) back = record { sides = front ++ side ∷ back } ∷ []

-- side by side what lies beyond the other's, with the sides before narrowed to what is common
abbrev pub rest_after : List Side → List Side → List Side → List Region
rest_after front [] others = []
rest_after front (side ∷ sides) [] = []
rest_after front (side ∷ sides) (other ∷ others) =
    box_with front (lower_rest side other) sides ++ box_with front (upper_rest side other) sides
    ++ rest_after (front ++ common_side side other ∷ []) sides others

-- boxes of the rows of the first that are not in the second
abbrev pub rest_of : Region → Region → List Region
rest_of a b = if regions_meet a b then rest_after [] a.sides b.sides else a ∷ []
