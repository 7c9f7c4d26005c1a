-- The cells of the leaves so far, as they are gathered.
use Rattle.std.specs.Prelude.{◌≡◌, ℕ, Bool, false, if◌then◌else◌, List, [], ◌∷◌, ◌++◌, map, slice_set, slice_index_or}
use Rattle.pc_model.specs.declared.region.Region.{Region}
use Rattle.pc_model.specs.declared.tree.Leaf.{Leaf}
use Rattle.pc_model.specs.declared.tree.LeafMark.TheVariants as marks
use Rattle.pc_model.specs.Cells.{Class, classes_of}
use Rattle.pc_cells.specs.declared.cells.Cell.{Cell}
use Rattle.pc_cells.specs.declared.gather.ClassKey.{ClassKey}
use Rattle.pc_cells.specs.declared.gather.Gathering.{Gathering}
use Rattle.pc_cells.specs.Found.{cells_of}

abbrev pub class_of_key : ClassKey → Class
class_of_key key = record { mask = key.mask; chosen = key.chosen }

-- the cells and the classes are those of the leaves
pub record IsGatheredFrom (leaves : List Leaf) (gathering : Gathering) : Type 0 where
  pub classes : map class_of_key gathering.classes.keys ≡ classes_of leaves
  pub cells : gathering.cells.items ≡ cells_of leaves

-- with one leaf more
abbrev pub HasGathered : Gathering → Leaf → Gathering → Type 0
HasGathered gathering leaf more = (leaves : List Leaf) → IsGatheredFrom leaves gathering → IsGatheredFrom (leaves ++ leaf ∷ []) more

abbrev pub leaf_of : ClassKey → Region → Leaf
leaf_of key region = record { region = region; mark = marks.Class key.mask key.chosen }

-- with a cell without leaves, where its class is new
abbrev pub with_cell : List Cell → ClassKey → Bool → List Cell
with_cell cells key is_new = if is_new then cells ++ record { mask = key.mask; chosen = key.chosen; leaves = [] } ∷ [] else cells

-- the cell with one more leaf
abbrev pub and_leaf : Cell → Region → Cell
and_leaf cell region = record { mask = cell.mask; chosen = cell.chosen; leaves = cell.leaves ++ region ∷ [] }

abbrev pub with_leaf_at : List Cell → ℕ → Region → List Cell
with_leaf_at cells place region = slice_set cells place (and_leaf (slice_index_or cells place (record { mask = 0; chosen = false; leaves = [] })) region)
