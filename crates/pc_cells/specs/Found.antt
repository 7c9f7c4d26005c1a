-- The cells of leaves, their rows, and what is asked of them.
use Rattle.std.specs.Prelude.{◌≡◌, ◌↔◌, ℕ, ◌<◌, ◌^◌, ℤ, ◌≤ℤ◌, ⊤, Bool, true, false, List, [], length, map, All, AllPairs, Contains, IsTrue, count_by, Option, Some, IfSome, slice_get, slice_index_or}
use Rattle.pc_model.specs.declared.schema.Schema.{Schema}
use Rattle.pc_model.specs.declared.row.Row.{Row}
use Rattle.pc_model.specs.declared.region.Region.{Region}
use Rattle.pc_model.specs.declared.area.Area.{Area}
use Rattle.pc_model.specs.declared.constraint.When.{When}
use Rattle.pc_model.specs.declared.constraint.When.TheVariants.{Boxes, Outside}
use Rattle.pc_model.specs.declared.constraint.Constraint.{Constraint}
use Rattle.pc_model.specs.declared.tree.Leaf.{Leaf}
use Rattle.pc_model.specs.Aggregate.{number_at}
use Rattle.pc_model.specs.Accepted.{IsNumeric, IsColumnWhere}
use Rattle.pc_model.specs.Boxes.{IsServable}
use Rattle.pc_model.specs.Membership.{AreDisjoint, holds, in_domain, has}
use Rattle.pc_model.specs.Regions.{is_region_of}
use Rattle.pc_model.specs.CutTrees.{IsApartFromArea, side_at}
use Rattle.pc_model.specs.Cells.{Class, IsRowOf, HasRowOf, IsSettledTree, classes_of, boxes_of, leaves_in, IsInSome, IsSpanned}
use Rattle.pc_box.specs.Boxes.{IsBox, IsAlikeToArea}
use Rattle.pc_cells.specs.declared.cells.Cell.{Cell}
use Rattle.pc_cells.specs.declared.cells.Cells.{Cells}

abbrev pub class_of_cell : Cell → Class
class_of_cell cell = record { mask = cell.mask; chosen = cell.chosen }

-- the cells of leaves: their classes in order of the first leaf, each with the boxes of its leaves
abbrev pub cell_of : List Leaf → Class → Cell
cell_of leaves class = record { mask = class.mask; chosen = class.chosen; leaves = boxes_of leaves class }

abbrev pub cells_of : List Leaf → List Cell
cells_of leaves = map (cell_of leaves) (classes_of leaves)

-- a cell has leaves, and each has rows
pub record IsFilled (cell : Cell) : Type 0 where
  pub some : 0 < length cell.leaves
  pub few : length cell.leaves < 2 ^ 32
  pub boxes : All IsBox cell.leaves

-- ---- one cell, and one of its leaves

abbrev pub cell_at : List Cell → ℕ → Cell
cell_at cells place = slice_index_or cells place (record { mask = 0; chosen = false; leaves = [] })

abbrev pub leaves_at : List Cell → ℕ → List Region
leaves_at cells place = (cell_at cells place).leaves

abbrev pub leaf_at : List Region → ℕ → Region
leaf_at leaves place = slice_index_or leaves place (record { sides = [] })

-- the leaf is there, and its side of the column holds the number
pub record HoldsNumber (leaves : List Region) (leaf column : ℕ) (number : ℤ) : Type 0 where
  pub there : leaf < length leaves
  pub held : holds (side_at (leaf_at leaves leaf) column) number ≡ true

-- .. of the cell at a place
abbrev pub leaf_in : List Cell → ℕ → ℕ → Region
leaf_in cells place leaf = leaf_at (leaves_at cells place) leaf

abbrev pub HoldsNumberIn : List Cell → ℕ → ℕ → ℕ → ℤ → Type 0
HoldsNumberIn cells place leaf column number = HoldsNumber (leaves_at cells place) leaf column number

-- the row has the number in the column, if one is named
abbrev pub HasNumber : Option ℕ → ℤ → Row → Type 0
HasNumber column number row = IfSome column (λ named. slice_get row.cells named ≡ Some number)

-- no row of the leaves has less in the column, or none has more
abbrev pub HaveAtLeast : List Region → ℕ → ℤ → Type 0
HaveAtLeast leaves column number = (row : Row) → IsInSome leaves row → number ≤ℤ number_at row column

abbrev pub HaveAtMost : List Region → ℕ → ℤ → Type 0
HaveAtMost leaves column number = (row : Row) → IsInSome leaves row → number_at row column ≤ℤ number

-- a column of numbers, in each leaf
abbrev pub HasNumbers : ℕ → Cell → Type 0
HasNumbers column cell = All (λ (leaf : Region). IsSpanned (side_at leaf column)) cell.leaves

-- ---- the cells of all rows of a domain

-- the cells of rows by which constraints speak of them and whether the area has them
pub record AreCellsFor (schema : Schema) (constraints : List Constraint) (chosen : Area) (found : Cells) : Type 0 where
  pub settled : IsSettledTree schema constraints chosen found.tree.nodes
  pub one_leaf : (row : Row) → in_domain schema row ≡ true → count_by (λ (leaf : Leaf). has leaf.region row) (leaves_in schema found.tree.nodes) ≡ 1
  pub cells : found.cells ≡ cells_of (leaves_in schema found.tree.nodes)
  -- a class has a cell just where it has rows
  pub classes : (class : Class) → (Contains (map class_of_cell found.cells) class ↔ HasRowOf schema constraints chosen class)
  -- and its rows are those in the leaves of its cell
  pub rows : All (λ (cell : Cell). (row : Row) → (IsRowOf schema constraints chosen (class_of_cell cell) row ↔ IsInSome cell.leaves row)) found.cells
  pub filled : All IsFilled found.cells
  pub regions : All (λ (cell : Cell). All (λ (leaf : Region). is_region_of schema leaf ≡ true) cell.leaves) found.cells
  pub numbers : (column : ℕ) → IsColumnWhere IsNumeric schema column → All (HasNumbers column) found.cells

-- ---- constraints of one schema

abbrev pub AreOfOneSchema : List Constraint → Type 0
AreOfOneSchema constraints = (schema : Schema) × All (IsServable schema) constraints

-- ---- constraints that speak of no row together

-- boxes have the columns of those of an area
abbrev pub AreAlikeToArea : List Region → Area → Type 0
AreAlikeToArea boxes area = All (λ (region : Region). IsAlikeToArea region area) boxes

abbrev pub AreWhensAlike : When → When → Type 0
AreWhensAlike (Boxes area) (Boxes other) = AreAlikeToArea area.boxes other
AreWhensAlike (Boxes area) Outside = ⊤
AreWhensAlike Outside other = ⊤

-- no row of the boxes is in an area
abbrev pub AreApartFromArea : List Region → Area → Type 0
AreApartFromArea boxes area = All (λ (region : Region). IsApartFromArea region area) boxes

-- what is outside is apart from every area
abbrev pub AreWhensApart : When → When → Type 0
AreWhensApart (Boxes area) (Boxes other) = AreApartFromArea area.boxes other
AreWhensApart (Boxes area) Outside = ⊤
AreWhensApart Outside other = ⊤

abbrev pub AreApartFrom : List Constraint → When → Type 0
AreApartFrom constraints when = All (λ (other : Constraint). AreWhensApart other.when when) constraints

abbrev pub AreApart : List Constraint → Type 0
AreApart constraints = AllPairs (λ (a b : Constraint). AreWhensApart a.when b.when) constraints

-- whether they are disjoint, for each schema that they are of
abbrev pub TellsDisjoint : List Constraint → Bool → Type 0
TellsDisjoint constraints apart = (schema : Schema) → All (IsServable schema) constraints → (IsTrue apart ↔ AreDisjoint schema constraints)
