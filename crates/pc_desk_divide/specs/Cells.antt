-- The cells into which divisions cut an area, and what is said of them.
use Rattle.std.specs.Prelude.{◌≡◌, ℕ, ◌+◌, ◌-◌, ◌*◌, ◌^◌, ◌<◌, ◌≤◌, nat_lt, min, true, List, [], ◌∷◌, All, AllPairs, Any, Option, Some, None, flat_map, fold, length, map, slice_get, if◌then◌else◌}
use Rattle.std.specs.List.{filter_map}
use Rattle.pc_model.specs.declared.area.Area.{Area}
use Rattle.pc_model.specs.declared.region.Region.{Region}
use Rattle.pc_model.specs.declared.region.Side.{Side}
use Rattle.pc_model.specs.declared.region.Side.TheVariants.{Span, Names}
use Rattle.pc_model.specs.declared.row.Row.{Row}
use Rattle.pc_model.specs.declared.schema.Schema.{Schema}
use Rattle.pc_model.specs.Boxes.{IsAreaOf}
use Rattle.pc_model.specs.CutTrees.{with_side}
use Rattle.pc_model.specs.Membership.{is_in}
use Rattle.pc_model.specs.Regions.{meet_sides}
use Rattle.pc_desk_divide.specs.declared.division.Division.{Division}
use Rattle.pc_desk_divide.specs.declared.parting.Parting.{Parting}
use Rattle.pc_desk_divide.specs.declared.cells.Cells.{Cells}
use Rattle.pc_desk_divide.specs.declared.cells.Cells.TheVariants.{Divided, TooMany}
use Rattle.pc_desk_divide.specs.Pieces.{pieces_of, width}

abbrev pub cell_limit : ℕ
cell_limit = 20

-- ---- one cell

abbrev pub common_if : Option Side → Side → Option Side
common_if None piece = None
common_if (Some side) piece = meet_sides side piece

abbrev pub with_side_if : Region → ℕ → Option Side → Option Region
with_side_if box column None = None
with_side_if box column (Some side) = Some (with_side box column side)

-- the rows of a box that have a number of the piece in the column, if the box has such numbers
abbrev pub narrowed : ℕ → Side → Region → Option Region
narrowed column piece box = with_side_if box column (common_if (slice_get box.sides column) piece)

-- the same box by box
unfoldable pub narrowed_boxes : ℕ → Side → List Region → List Region
narrowed_boxes column piece boxes = filter_map (narrowed column piece) boxes

abbrev pub narrowed_area : ℕ → Area → Side → Area
narrowed_area column area piece = record { boxes = narrowed_boxes column piece area.boxes }

-- ---- all cells

abbrev pub parting_of : List Region → Division → Parting
parting_of boxes division = record { column = division.column; pieces = pieces_of boxes division }

-- each division with its pieces
abbrev pub partings_of : Area → List Division → List Parting
partings_of chosen divisions = map (parting_of chosen.boxes) divisions

-- an area of some boxes; any other has no row
abbrev pub listed : Area → List Area
listed area = if nat_lt 0 (length area.boxes) then area ∷ [] else []

-- a cell is cut by each piece of a column
abbrev pub cut_cell : Parting → Area → List Area
cut_cell parting cell = flat_map (λ piece. listed (narrowed_area parting.column cell piece)) parting.pieces

abbrev pub cut_cells : List Area → Parting → List Area
cut_cells cells parting = flat_map (cut_cell parting) cells

-- .. and what it leaves by those of the next
abbrev pub cells_with : Area → List Parting → List Area
cells_with chosen partings = fold cut_cells (chosen ∷ []) partings

-- the rows of the area that have a number of one piece in each divided column, for each choice of pieces with such a box
unfoldable pub cells_in : Area → List Division → List Area
cells_in chosen divisions = cells_with chosen (partings_of chosen divisions)

-- how many choices of pieces there are, or 2^64 - 1 if they are more
abbrev pub times : ℕ → Parting → ℕ
times count parting = min (count * length parting.pieces) (2 ^ 64 - 1)

abbrev pub choices : List Parting → ℕ
choices partings = fold times 1 partings

abbrev pub cells_unless_many : Area → List Parting → Cells
cells_unless_many chosen partings =
    if nat_lt cell_limit (choices partings) then TooMany (choices partings) else Divided (cells_with chosen partings)

unfoldable pub cells_of : Area → List Division → Cells
cells_of chosen divisions = cells_unless_many chosen (partings_of chosen divisions)

-- ---- what is said of them

-- no row is in two
abbrev pub AreApart : List Area → Type 0
AreApart cells = AllPairs (λ (a b : Area). (row : Row) → is_in a row ≡ true → is_in b row ≡ true → ⊥) cells

-- each row of the area is in one
abbrev pub Cover : Area → List Area → Type 0
Cover chosen cells = (row : Row) → is_in chosen row ≡ true → Any (λ (cell : Area). is_in cell row ≡ true) cells

-- none has other rows than the area
abbrev pub StayWithin : Area → List Area → Type 0
StayWithin chosen cells = All (λ (cell : Area). (row : Row) → is_in cell row ≡ true → is_in chosen row ≡ true) cells

-- each can be the predicate of a constraint
abbrev pub AreAreasOf : Schema → List Area → Type 0
AreAreasOf schema cells = All (IsAreaOf schema) cells

abbrev pub AreCellsOf : Schema → Cells → Type 0
AreCellsOf schema (Divided cells) = AreAreasOf schema cells × (length cells ≤ cell_limit)
AreCellsOf schema (TooMany count) = cell_limit < count

-- how many numbers a range has
abbrev pub breadth : Side → ℕ
breadth (Span low high) = width low high
breadth (Names bits) = 0

-- of two ranges one has at most one number more
abbrev pub AreOfEqualWidth : List Side → Type 0
AreOfEqualWidth ranges = AllPairs (λ (a b : Side). (breadth a ≤ breadth b + 1) × (breadth b ≤ breadth a + 1)) ranges
