-- A row of each cell, and the lists that they make.
use Rattle.std.proofs.Common.{◌≡◌, ℕ, ◌+◌, ◌<◌, true, false, List, [], ◌∷◌, ◌++◌, take, length, map, get_or, All, None, refl, sym, ap, ◌∙◌, subst}
use Rattle.std.specs.List.{AllZip}
use Rattle.std.proofs.lemmas.List.{take_more}
use Rattle.std.proofs.lemmas.Slice.Zip.{all_zipped_more}
use Rattle.pc_model.specs.declared.schema.Schema.{Schema}
use Rattle.pc_model.specs.declared.row.Row.{Row}
use Rattle.pc_model.specs.declared.area.Area.{Area}
use Rattle.pc_model.specs.declared.constraint.Constraint.{Constraint}
use Rattle.pc_model.specs.declared.tree.CutNode.{CutNode}
use Rattle.pc_model.specs.Membership.{has}
use Rattle.pc_model.specs.WellFormed.{IsWellFormed}
use Rattle.pc_model.specs.Cells.{Class, IsRowOf, IsSettledTree, boxes_of, leaves_in, classes_of}
use Rattle.pc_cells_laws.proofs.SettledTrees.{rows_of_tree}
use Rattle.pc_model.specs.declared.query.Query.{Query}
use Rattle.pc_cells.specs.declared.cells.Cell.{Cell}
use Rattle.pc_cells.proofs.Decomposed.{classes_of_cells}
use Rattle.pc_agg_search.specs.declared.extreme.Extreme.TheVariants.{Low}
use Rattle.pc_agg_search.specs.Settings.{unseen}
use Rattle.pc_agg_search.specs.Targets.{IsPickIn}
use Rattle.pc_agg_search.proofs.FirstRows.{in_some}
use Rattle.pc_agg.specs.Settling.{AreRowsOfCells}
use Rattle.pc_cells.specs.Found.{class_of_cell, cell_of, cells_of, IsFilled, leaf_in}
use Rattle.pc_cells.specs.Lowest.{IsLowestBut}

-- ---- as far as a loop has come

abbrev pub IsIn : Cell → Row → Type 0
IsIn cell row = IsPickIn None Low cell row

abbrev no_cell : Cell
no_cell = record { mask = 0; chosen = false; leaves = [] }

pub more_rows : (cells : List Cell) (picks : List Row) (place : ℕ) (row : Row) → place < length cells → All IsFilled cells → AllZip IsIn (take place cells) picks →
    has (leaf_in cells place 0) row ≡ true → IsLowestBut None (leaf_in cells place 0) row → AllZip IsIn (take (place + 1) cells) (picks ++ row ∷ [])
more_rows cells picks place row there filled paired held lowest =
    rw (take_more cells place no_cell there)
    (all_zipped_more IsIn (take place cells) picks (get_or cells place no_cell) row paired (record { leaf = 0; there = (filled place no_cell there).some; held = held; number = tt; first = refl; lowest = lowest }))

-- ---- the rows of cells

module _ (schema : Schema) (constraints : List Constraint) (chosen : Area) (nodes : List CutNode) (formed : IsWellFormed schema) (tree : IsSettledTree schema constraints chosen nodes) where
  rows_of_classes : (classes : List Class) (picks : List Row) → AllZip IsIn (map (cell_of (leaves_in schema nodes)) classes) picks →
      AllZip (IsRowOf schema constraints chosen) (map class_of_cell (map (cell_of (leaves_in schema nodes)) classes)) picks
  rows_of_classes [] [] paired = tt
  rows_of_classes [] (row ∷ picks) paired = absurd paired
  rows_of_classes (class ∷ classes) [] paired = absurd paired
  rows_of_classes (class ∷ classes) (row ∷ picks) paired = ((rows_of_tree schema constraints chosen nodes formed tree class row).1 (in_some None Low (boxes_of (leaves_in schema nodes) class) row paired.0), rows_of_classes classes picks paired.1)

  pub rows_of_found : (found : List Cell) (picks : List Row) → found ≡ cells_of (leaves_in schema nodes) → AllZip IsIn found picks →
      AllZip (IsRowOf schema constraints chosen) (map class_of_cell found) picks
  rows_of_found found picks is paired =
      subst (λ cells. AllZip (IsRowOf schema constraints chosen) (map class_of_cell cells) picks) (sym is)
      (rows_of_classes (classes_of (leaves_in schema nodes)) picks (subst (λ cells. AllZip IsIn cells picks) is paired))

pub rows_of_cells : (schema : Schema) (constraints : List Constraint) (query : Query) (nodes : List CutNode) → IsWellFormed schema → IsSettledTree schema constraints query.chosen nodes →
    (found : List Cell) (picks : List Row) → found ≡ cells_of (leaves_in schema nodes) → AllZip IsIn found picks → AreRowsOfCells (unseen schema constraints query nodes) picks
rows_of_cells schema constraints query nodes formed tree found picks is paired =
    subst (λ classes. AllZip (IsRowOf schema constraints query.chosen) classes picks) (ap (map class_of_cell) is ∙ classes_of_cells (leaves_in schema nodes) (classes_of (leaves_in schema nodes)))
    (rows_of_found schema constraints query.chosen nodes formed tree found picks is paired)
