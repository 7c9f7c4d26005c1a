-- Divisions of the rows by columns, and into which pieces the numbers of a column are cut.
use Rattle.std.specs.Prelude.{◌≢◌, ℕ, ◌+◌, ◌*◌, ◌/◌, ◌^◌, ◌≤◌, ℤ, pos, ◌+ℤ◌, ◌-ℤ◌, int_lt, unsigned_abs, bit_or, min, List, [], ◌∷◌, All, AllPairs, Option, Some, None, flat_map, fold, map, slice_get, if◌then◌else◌}
use Rattle.std.specs.Int.{int_min, int_max}
use Rattle.std.specs.List.{range_with_len}
use Rattle.pc_model.specs.declared.region.Region.{Region}
use Rattle.pc_model.specs.declared.region.Side.{Side}
use Rattle.pc_model.specs.declared.region.Side.TheVariants.{Span, Names}
use Rattle.pc_model.specs.declared.schema.Kind.{Kind}
use Rattle.pc_model.specs.declared.schema.Schema.{Schema}
use Rattle.pc_model.specs.Accepted.{HasNames, IsColumnWhere, IsNumeric}
use Rattle.pc_model.specs.Places.{has_bit}
use Rattle.pc_desk_divide.specs.declared.division.Division.{Division}
use Rattle.pc_desk_divide.specs.declared.division.Pieces.{Pieces}
use Rattle.pc_desk_divide.specs.declared.division.Pieces.TheVariants as pieces

-- ---- divisions

-- the numbers of a column are cut into at most so many ranges
abbrev pub range_limit : ℕ
range_limit = 20

-- a column of names is cut into its names, and one of numbers into ranges
abbrev pub Cuts : Pieces → Kind → Type 0
Cuts pieces.Names kind = HasNames kind
Cuts (pieces.Ranges parts) kind = IsNumeric kind × (1 ≤ parts) × (parts ≤ range_limit)

abbrev pub IsDivision : Schema → Division → Type 0
IsDivision schema division = IsColumnWhere (Cuts division.pieces) schema division.column

-- divisions of a schema, of which no two are of one column
pub record AreDivisions (schema : Schema) (divisions : List Division) : Type 0 where
  pub each : All (IsDivision schema) divisions
  pub own_columns : AllPairs (λ (a b : Division). a.column ≢ b.column) divisions

-- ---- what boxes have in a column

-- from the lesser low to the greater high, or each name of either
unfoldable pub joined : Side → Side → Side
joined (Span low high) (Span other_low other_high) = Span (int_min low other_low) (int_max high other_high)
joined (Span low high) (Names bits) = Span low high
joined (Names bits) (Span low high) = Names bits
joined (Names bits) (Names other_bits) = Names (bit_or bits other_bits)

abbrev pub joined_to : Option Side → Side → Side
joined_to None side = side
joined_to (Some hull) side = joined hull side

abbrev pub joined_if : Option Side → Option Side → Option Side
joined_if hull None = hull
joined_if hull (Some side) = Some (joined_to hull side)

abbrev pub joined_with : ℕ → Option Side → Region → Option Side
joined_with column hull box = joined_if hull (slice_get box.sides column)

-- from the least low to the greatest high of the boxes, or each name that some box has
abbrev pub hull_of : ℕ → List Region → Option Side
hull_of column boxes = fold (joined_with column) None boxes

-- ---- pieces

-- how many numbers lie from low to high
abbrev pub width : ℤ → ℤ → ℕ
width low high = unsigned_abs (high -ℤ low) + 1

-- So many numbers from low on are cut into `count` ranges: range k has those from low + k * width / count on, up to the one before
-- range k + 1.
abbrev pub range_start : ℤ → ℕ → ℕ → ℕ → ℤ
range_start low width count k = low +ℤ pos (k * width / count)

abbrev pub range_at : ℤ → ℕ → ℕ → ℕ → Side
range_at low width count k = Span (range_start low width count k) (range_start low width count (k + 1) -ℤ pos 1)

-- as many ranges as are wanted, but no more than numbers
abbrev pub ranges_with : ℤ → ℕ → ℕ → List Side
ranges_with low width count = map (range_at low width count) (range_with_len 0 count)

unfoldable pub ranges_of : ℕ → ℤ → ℤ → List Side
ranges_of parts low high = if int_lt high low then [] else ranges_with low (width low high) (min parts (width low high))

-- a set of one name, if it is in the set
abbrev pub name_in : ℕ → ℕ → List Side
name_in bits place = if has_bit bits place then Names (2 ^ place) ∷ [] else []

-- a name each
unfoldable pub names_of : ℕ → List Side
names_of bits = flat_map (name_in bits) (range_with_len 0 128)

unfoldable pub pieces_of_side : Pieces → Side → List Side
pieces_of_side pieces.Names (Names bits) = names_of bits
pieces_of_side pieces.Names (Span low high) = Span low high ∷ []
pieces_of_side (pieces.Ranges parts) (Span low high) = ranges_of parts low high
pieces_of_side (pieces.Ranges parts) (Names bits) = Names bits ∷ []

abbrev pub pieces_if : Pieces → Option Side → List Side
pieces_if by None = []
pieces_if by (Some side) = pieces_of_side by side

-- the pieces into which a division cuts what boxes have in its column
abbrev pub pieces_of : List Region → Division → List Side
pieces_of boxes division = pieces_if division.pieces (hull_of division.column boxes)
