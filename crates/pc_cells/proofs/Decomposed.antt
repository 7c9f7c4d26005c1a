-- The cells of a settled tree: their classes, their rows and their leaves.
use Rattle.std.proofs.Common.{◌≡◌, ◌↔◌, ℕ, ◌<◌, ◌^◌, cond, true, List, [], ◌∷◌, length, map, All, Contains, count_by, refl, sym, ap, subst, ◌∙◌, arith}
use Rattle.std.proofs.lemmas.List.Elements.{All-map, All-weaker, All-contains_itself}
use Rattle.pc_model.specs.declared.schema.Schema.{Schema}
use Rattle.pc_model.specs.declared.row.Row.{Row}
use Rattle.pc_model.specs.declared.region.Region.{Region}
use Rattle.pc_model.specs.declared.area.Area.{Area}
use Rattle.pc_model.specs.declared.constraint.Constraint.{Constraint}
use Rattle.pc_model.specs.declared.tree.CutNode.{CutNode}
use Rattle.pc_model.specs.declared.tree.Leaf.{Leaf}
use Rattle.pc_model.specs.Accepted.{IsNumeric, IsColumnWhere}
use Rattle.pc_model.specs.Membership.{in_domain, has}
use Rattle.pc_model.specs.Regions.{whole_region, is_region_of}
use Rattle.pc_model.specs.WellFormed.{IsWellFormed}
use Rattle.pc_model.specs.CutTrees.{shape_of, side_at}
use Rattle.pc_model.specs.Cells.{Class, IsRowOf, HasRowOf, IsSettledTree, classes_of, boxes_of, leaves_in, IsInSome, IsSpanned}
use Rattle.pc_box.specs.Boxes.{IsBox}
use Rattle.pc_box.proofs.Schemas.{IsBox-from_schema}
use Rattle.pc_cells_laws.proofs.Cells.{boxes_of-some, boxes_of-few, boxes_of-all}
use Rattle.pc_cells_laws.proofs.Spans.{spanned_leaf}
use Rattle.pc_cells_laws.proofs.SettledTrees.{classes_of_tree, rows_of_tree}
use Rattle.pc_cells_laws.proofs.TreesLeaves.{one_leaf}
use Rattle.pc_model.proofs.WholeDomain.{in_whole}
use Rattle.pc_cells_laws.proofs.TreesDomain.{domain_regions}
use Rattle.pc_cells.specs.declared.cells.Cell.{Cell}
use Rattle.pc_cells.specs.Found.{class_of_cell, cell_of, cells_of, AreCellsFor, IsFilled, HasNumbers}

-- ---- the cells of leaves

pub classes_of_cells : (leaves : List Leaf) (classes : List Class) → map class_of_cell (map (cell_of leaves) classes) ≡ classes
classes_of_cells leaves [] = refl
classes_of_cells leaves (class ∷ classes) = ap (λ (later : List Class). class ∷ later) (classes_of_cells leaves classes)

-- what holds of the cell of each class
each_cell : (P : Cell → Type 0) (leaves : List Leaf) → ((class : Class) → Contains (classes_of leaves) class → P (cell_of leaves class)) → All P (cells_of leaves)
each_cell P leaves each =
    All-map P (cell_of leaves) (classes_of leaves)
    (All-weaker (Contains (classes_of leaves)) (λ (class : Class). P (cell_of leaves class)) each (classes_of leaves) (All-contains_itself (classes_of leaves)))

-- ---- the cells of a settled tree

module _ (schema : Schema) (constraints : List Constraint) (chosen : Area) (nodes : List CutNode) (formed : IsWellFormed schema) (tree : IsSettledTree schema constraints chosen nodes) where
  row_in_one_leaf : (row : Row) → in_domain schema row ≡ true → count_by (λ (leaf : Leaf). has leaf.region row) (leaves_in schema nodes) ≡ 1
  row_in_one_leaf row allowed =
      one_leaf (whole_region schema) (shape_of nodes) row tree.proper ∙ ap (λ test. cond test 1 0) (in_whole schema row ∙ allowed)

  module _ (leaves : List Leaf) (leaves_are : leaves ≡ leaves_in schema nodes) (cells : List Cell) (cells_are : cells ≡ cells_of leaves) where
    cells_in : cells ≡ cells_of (leaves_in schema nodes)
    cells_in = cells_are ∙ ap cells_of leaves_are

    classes_in : (class : Class) → Contains (map class_of_cell cells) class ↔ HasRowOf schema constraints chosen class
    classes_in class =
        let known = ap (map class_of_cell) cells_in ∙ classes_of_cells (leaves_in schema nodes) (classes_of (leaves_in schema nodes)) in
        subst (λ (l : List Class). Contains l class ↔ HasRowOf schema constraints chosen class) (sym known) (classes_of_tree schema constraints chosen nodes formed tree class)

    -- what holds of the cell of each class of the tree
    each_cell_in : (P : Cell → Type 0) → ((class : Class) → Contains (classes_of (leaves_in schema nodes)) class → P (cell_of (leaves_in schema nodes) class)) → All P cells
    each_cell_in P each = subst (All P) (sym cells_in) (each_cell P (leaves_in schema nodes) each)

    rows_in : All (λ (cell : Cell). (row : Row) → (IsRowOf schema constraints chosen (class_of_cell cell) row ↔ IsInSome cell.leaves row)) cells
    rows_in = each_cell_in (λ (cell : Cell). (row : Row) → (IsRowOf schema constraints chosen (class_of_cell cell) row ↔ IsInSome cell.leaves row)) (λ class listed row. rows_of_tree schema constraints chosen nodes formed tree class row)

    -- what holds of each region of the schema
    each_leaf_in : (P : Region → Type 0) → ((leaf : Region) → is_region_of schema leaf ≡ true → P leaf) → (class : Class) → All P (boxes_of (leaves_in schema nodes) class)
    each_leaf_in P each class =
        boxes_of-all P (leaves_in schema nodes) class
        (All-weaker (λ (leaf : Leaf). is_region_of schema leaf.region ≡ true) (λ (leaf : Leaf). P leaf.region) (λ (leaf : Leaf) h. each leaf.region h) (leaves_in schema nodes) (domain_regions schema (shape_of nodes) tree.proper formed))

    filled_in : length leaves < 2 ^ 32 → All IsFilled cells
    filled_in few =
        each_cell_in IsFilled
        (λ class listed. record {
          some = boxes_of-some (leaves_in schema nodes) class listed;
          few = let same = ap length leaves_are in let less = boxes_of-few (leaves_in schema nodes) class in omega arith;
          boxes = each_leaf_in IsBox (IsBox-from_schema schema) class;
        })

    regions_in : All (λ (cell : Cell). All (λ (leaf : Region). is_region_of schema leaf ≡ true) cell.leaves) cells
    regions_in =
        each_cell_in (λ (cell : Cell). All (λ (leaf : Region). is_region_of schema leaf ≡ true) cell.leaves)
        (λ class listed. each_leaf_in (λ (leaf : Region). is_region_of schema leaf ≡ true) (λ leaf h. h) class)

    numbers_in : (column : ℕ) → IsColumnWhere IsNumeric schema column → All (HasNumbers column) cells
    numbers_in column numeric =
        each_cell_in (HasNumbers column)
        (λ class listed. each_leaf_in (λ (leaf : Region). IsSpanned (side_at leaf column)) (λ leaf h. spanned_leaf schema leaf column numeric h) class)

    pub are_cells_for : length leaves < 2 ^ 32 → AreCellsFor schema constraints chosen (record { tree = record { nodes = nodes }; cells = cells })
    are_cells_for few = record { settled = tree; one_leaf = row_in_one_leaf; cells = cells_in; classes = classes_in; rows = rows_in; filled = filled_in few; regions = regions_in; numbers = numbers_in }
