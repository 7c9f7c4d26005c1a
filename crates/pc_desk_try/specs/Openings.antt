-- Which classes of rows constraints open.
use Rattle.std.specs.Prelude.{◌≡◌, ◌↔◌, ℕ, ◌==◌, ◌||◌, not, nat_lt, Bool, true, List, All, count_by, filter, length, map}
use Rattle.std.specs.List.{enumerate_from, list_all}
use Rattle.pc_model.specs.declared.constraint.Constraint.{Constraint}
use Rattle.pc_model.specs.declared.region.Region.{Region}
use Rattle.pc_model.specs.declared.row.Row.{Row}
use Rattle.pc_model.specs.declared.schema.Schema.{Schema}
use Rattle.pc_model.specs.Cells.{IsInSome, IsLawful, mask_of}
use Rattle.pc_model.specs.Membership.{has, in_domain, is_under}
use Rattle.pc_model.specs.Places.{has_bit}
use Rattle.pc_model.specs.Regions.{is_region_of}
use Rattle.pc_box.specs.Boxes.{IsBox}
use Rattle.pc_cells.specs.declared.cells.Cell.{Cell}
use Rattle.pc_cells.specs.Found.{leaf_at}
use Rattle.pc_desk_try.specs.declared.opening.Opening.{Opening}

-- some rows of which it speaks may be lost
abbrev pub has_room : Constraint → Bool
has_room c = nat_lt 0 c.most

-- A row of the domain that can be lost, as far as one row tells: some constraint speaks of it, and each that does has it among its
-- values and room for a row.
pub record CanBeLost (schema : Schema) (constraints : List Constraint) (row : Row) : Type 0 where
  pub allowed : in_domain schema row ≡ true
  pub lawful : IsLawful constraints row
  pub room : All (λ (c : Constraint). is_under constraints c row ≡ true → has_room c ≡ true) constraints

-- just the constraints of the class speak of the row
abbrev pub opens_to : List Constraint → Row → Opening → Bool
opens_to constraints row opening = opening.mask == mask_of constraints row

-- a row that can be lost, of which just these constraints speak
abbrev pub IsRowIn : Schema → List Constraint → Opening → Row → Type 0
IsRowIn schema constraints opening row = CanBeLost schema constraints row × (opens_to constraints row opening ≡ true)

-- Its box is one of the schema with rows in it, which are rows of the class; and these are the rows of so many boxes.
pub record IsOpening (schema : Schema) (constraints : List Constraint) (opening : Opening) : Type 0 where
  pub region : is_region_of schema opening.region ≡ true
  pub filled : IsBox opening.region
  pub rows : (row : Row) → has opening.region row ≡ true → IsRowIn schema constraints opening row
  pub boxes : List Region
  pub count : opening.boxes ≡ length boxes
  pub whole : (row : Row) → (IsRowIn schema constraints opening row ↔ IsInSome boxes row)

-- .. and each row that can be lost is in one of the classes, and in no other
pub record AreOpenings (schema : Schema) (constraints : List Constraint) (openings : List Opening) : Type 0 where
  pub each : All (IsOpening schema constraints) openings
  pub one : (row : Row) → CanBeLost schema constraints row → count_by (opens_to constraints row) openings ≡ 1

-- the first leaf of a cell is a box of its rows
abbrev pub opening_of : Cell → Opening
opening_of cell = record { mask = cell.mask; region = leaf_at cell.leaves 0; boxes = length cell.leaves }

-- a constraint at its place, where it has room if its bit is set
abbrev pub lets_lose : ℕ → ℕ × Constraint → Bool
lets_lose mask entry = not (has_bit mask entry.0) || has_room entry.1

-- .. each of a class
abbrev pub is_open : List Constraint → ℕ → Bool
is_open constraints mask = list_all (lets_lose mask) (enumerate_from 0 constraints)

abbrev pub is_open_cell : List Constraint → Cell → Bool
is_open_cell constraints cell = is_open constraints cell.mask

abbrev pub openings_in : List Constraint → List Cell → List Opening
openings_in constraints cells = map opening_of (filter (is_open_cell constraints) cells)
