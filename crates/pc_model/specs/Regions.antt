-- Regions of a schema: one side per column, not empty and inside the column's domain.
use Rattle.std.specs.Prelude.{ℕ, ◌-◌, ◌^◌, ◌==◌, ◌&&◌, ℤ, int_le, int_lt, nat_lt, if◌then◌else◌, Bool, false, [], ◌∷◌, length, map, Option, Some, None}
use Rattle.std.specs.Int.{int_min, int_max}
use Rattle.std.specs.Int.Bits.{bit_and}
use Rattle.std.specs.Cmp.Lexicographic.{pointwise}
use Rattle.pc_model.specs.declared.schema.Kind.{Kind}
use Rattle.pc_model.specs.declared.schema.Kind.TheVariants.{Int, Dec, Cat}
use Rattle.pc_model.specs.declared.schema.Column.{Column}
use Rattle.pc_model.specs.declared.schema.Schema.{Schema}
use Rattle.pc_model.specs.declared.region.Side.{Side}
use Rattle.pc_model.specs.declared.region.Side.TheVariants.{Span, Names}
use Rattle.pc_model.specs.declared.region.Region.{Region}
use Rattle.pc_model.specs.declared.area.Area.{Area}

-- every number of a column
abbrev pub whole_side : Kind → Side
whole_side (Int low high) = Span low high
whole_side (Dec scale low high) = Span low high
whole_side (Cat names) = Names (2 ^ length names - 1)

-- some numbers from low to high
abbrev pub is_span_in : ℤ → ℤ → Side → Bool
is_span_in low high (Span from to) = int_le low from && (int_le from to && int_le to high)
is_span_in low high (Names bits) = false

-- some places of so many
abbrev pub is_set_in : ℕ → Side → Bool
is_set_in count (Span from to) = false
is_set_in count (Names bits) = nat_lt 0 bits && nat_lt bits (2 ^ count)

-- some of the numbers of a column
abbrev pub is_side_of : Kind → Side → Bool
is_side_of (Int low high) side = is_span_in low high side
is_side_of (Dec scale low high) side = is_span_in low high side
is_side_of (Cat names) side = is_set_in (length names) side

-- such a side for each column
unfoldable pub is_region_of : Schema → Region → Bool
is_region_of schema region = pointwise (λ (column : Column). is_side_of column.kind) schema.columns region.sides

-- the region of the whole domain
abbrev pub whole_region : Schema → Region
whole_region schema = record { sides = map (λ (column : Column). whole_side column.kind) schema.columns }

-- the area of one box, and that of the whole domain
abbrev pub one_box : Region → Area
one_box box = record { boxes = box ∷ [] }

abbrev pub whole_area : Schema → Area
whole_area schema = one_box (whole_region schema)

abbrev pub span_unless_empty : ℤ → ℤ → Option Side
span_unless_empty low high = if int_lt high low then None else Some (Span low high)

abbrev pub set_unless_empty : ℕ → Option Side
set_unless_empty bits = if bits == 0 then None else Some (Names bits)

-- what two sides have in common, if there is anything
unfoldable pub meet_sides : Side → Side → Option Side
meet_sides (Span low high) (Span other_low other_high) = span_unless_empty (int_max low other_low) (int_min high other_high)
meet_sides (Span low high) (Names bits) = None
meet_sides (Names bits) (Span low high) = None
meet_sides (Names bits) (Names other_bits) = set_unless_empty (bit_and bits other_bits)
