-- The cells of leaves: their classes, in order of the first leaf, with the ends of a column.
use Rattle.std.specs.Prelude.{◌≡◌, ℕ, List, ◌++◌, ◌∷◌, [], map, slice_set, slice_index_or, pos, false, Bool, if◌then◌else◌}
use Rattle.std.specs.Int.{int_min, int_max}
use Rattle.pc_model.specs.declared.region.Region.{Region}
use Rattle.pc_model.specs.declared.tree.Leaf.{Leaf}
use Rattle.pc_model.specs.declared.tree.LeafMark.TheVariants as marks
use Rattle.pc_model.specs.Cells.{Class, classes_of, boxes_of, low_at, high_at, least_low, greatest_high}
use Rattle.pc_check_rules.specs.declared.cells.GatheredCell.{GatheredCell}
use Rattle.pc_check_rules.specs.declared.cells.ClassKey.{ClassKey}
use Rattle.pc_check_rules.specs.declared.cells.Gathering.{Gathering}

abbrev pub class_of_cell : GatheredCell → Class
class_of_cell cell = record { mask = cell.mask; chosen = cell.chosen }

-- the cell of a class, and the cells of all classes
abbrev pub cell_of : ℕ → List Leaf → Class → GatheredCell
cell_of column leaves class = record {
  mask = class.mask;
  chosen = class.chosen;
  low = least_low column (boxes_of leaves class);
  high = greatest_high column (boxes_of leaves class);
}

abbrev pub cells_from : ℕ → List Leaf → List GatheredCell
cells_from column leaves = map (cell_of column leaves) (classes_of leaves)

-- the ends of the column over the boxes of the cell's class
pub record HasEnds (column : ℕ) (leaves : List Leaf) (cell : GatheredCell) : Type 0 where
  pub low_is : cell.low ≡ least_low column (boxes_of leaves (class_of_cell cell))
  pub high_is : cell.high ≡ greatest_high column (boxes_of leaves (class_of_cell cell))

-- ---- the leaves so far

abbrev pub class_of_key : ClassKey → Class
class_of_key key = record { mask = key.mask; chosen = key.chosen }

-- a leaf of the class
abbrev pub class_leaf : Region → ClassKey → Leaf
class_leaf region key = record { region = region; mark = marks.Class key.mask key.chosen }

-- the cells and the classes are those of the leaves
pub record IsGatheredFrom (column : ℕ) (leaves : List Leaf) (gathering : Gathering) : Type 0 where
  pub classes : map class_of_key gathering.classes.keys ≡ classes_of leaves
  pub cells : gathering.cells.items ≡ cells_from column leaves

-- .. and afterwards those of the leaves and one more
abbrev pub Gathers : ℕ → Gathering → Leaf → Gathering → Type 0
Gathers column before leaf after = (leaves : List Leaf) → IsGatheredFrom column leaves before → IsGatheredFrom column (leaves ++ leaf ∷ []) after

-- ---- one box more

abbrev pub cell_of_box : ℕ → ClassKey → Region → GatheredCell
cell_of_box column key region = record { mask = key.mask; chosen = key.chosen; low = low_at column region; high = high_at column region }

-- the cell with the boxes of another one of its class
abbrev pub widened : GatheredCell → GatheredCell → GatheredCell
widened cell other = record { mask = cell.mask; chosen = cell.chosen; low = int_min cell.low other.low; high = int_max cell.high other.high }

abbrev pub no_cell : GatheredCell
no_cell = record { mask = 0; chosen = false; low = pos 0; high = pos 0 }

-- a cell of its own for a new class, or a wider one
abbrev pub with_box : List GatheredCell → GatheredCell → Bool → ℕ → List GatheredCell
with_box cells cell is_new place = if is_new then cells ++ cell ∷ [] else slice_set cells place (widened (slice_index_or cells place no_cell) cell)
