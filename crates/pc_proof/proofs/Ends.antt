-- The numbers of a column of numbers, over rows that can be lost, lie between the ends of their cells.
use Rattle.std.proofs.Common.{◌≡◌, ℕ, ◌≤ℤ◌, List, All, Option, Some, None, IsSomeAnd, get_or, refl, subst}
use Rattle.std.specs.Prelude.{⊤}
use Rattle.pc_model.specs.declared.schema.Schema.{Schema}
use Rattle.pc_model.specs.declared.row.Row.{Row}
use Rattle.pc_model.specs.declared.region.Region.{Region}
use Rattle.pc_model.specs.declared.area.Area.{Area}
use Rattle.pc_model.specs.declared.constraint.Constraint.{Constraint}
use Rattle.pc_model.specs.declared.tree.CutNode.{CutNode}
use Rattle.pc_model.specs.declared.query.Agg.{Agg}
use Rattle.pc_model.specs.declared.query.Agg.TheVariants.{Count, Sum, Min, Max, Avg}
use Rattle.pc_model.specs.declared.query.Query.{Query}
use Rattle.pc_model.specs.Aggregate.{number_at, asked}
use Rattle.pc_model.specs.Accepted.{IsNumeric, IsColumnWhere, IsQuery, Measures}
use Rattle.pc_model.specs.WellFormed.{IsWellFormed}
use Rattle.pc_model.specs.Possible.{IsPossible}
use Rattle.pc_model.specs.CutTrees.{shape_of, side_at}
use Rattle.pc_model.specs.Cells.{Class, class_of, IsRowOf, IsSettledTree, IsInSome, IsSpanned, boxes_of, leaves_in, least_low, greatest_high}
use Rattle.pc_cells_laws.proofs.Cells.{boxes_of-all}
use Rattle.pc_cells_laws.proofs.Spans.{spanned_leaf, above_least, below_greatest}
use Rattle.pc_cells_laws.proofs.SettledTrees.{rows_of_tree}
use Rattle.pc_cells_laws.proofs.TreesDomain.{domain_regions}
use Rattle.pc_proof.proofs.PossibleRows.{lawful_from_possible}
use Rattle.pc_proof.specs.Setting.{Setting, area_of, low_in, high_in}

-- ---- a column of a settled tree

module _ (schema : Schema) (constraints : List Constraint) (chosen : Area) (nodes : List CutNode) (formed : IsWellFormed schema)
    (tree : IsSettledTree schema constraints chosen nodes) (column : ℕ) (numeric : IsColumnWhere IsNumeric schema column) where
  cell_spans : (class : Class) → All (λ (box : Region). IsSpanned (side_at box column)) (boxes_of (leaves_in schema nodes) class)
  cell_spans class =
      boxes_of-all (λ (box : Region). IsSpanned (side_at box column)) (leaves_in schema nodes) class
      (λ place d inside. spanned_leaf schema (get_or (leaves_in schema nodes) place d).region column numeric (domain_regions schema (shape_of nodes) tree.proper formed place d inside))

  -- a row of a cell has its number between the ends of the cell
  between_ends : (class : Class) (row : Row) → IsRowOf schema constraints chosen class row →
      (least_low column (boxes_of (leaves_in schema nodes) class) ≤ℤ number_at row column) × (number_at row column ≤ℤ greatest_high column (boxes_of (leaves_in schema nodes) class))
  between_ends class row lost =
      let found : IsInSome (boxes_of (leaves_in schema nodes) class) row = (rows_of_tree schema constraints chosen nodes formed tree class row).0 lost in
      (above_least column (boxes_of (leaves_in schema nodes) class) (cell_spans class) row found, below_greatest column (boxes_of (leaves_in schema nodes) class) (cell_spans class) row found)

  possible_between : (rows : List Row) → IsPossible schema constraints rows →
      All (λ (row : Row). (least_low column (boxes_of (leaves_in schema nodes) (class_of constraints chosen row)) ≤ℤ number_at row column)
      × (number_at row column ≤ℤ greatest_high column (boxes_of (leaves_in schema nodes) (class_of constraints chosen row)))) rows
  possible_between rows possible place d inside =
      let row = get_or rows place d in
      between_ends (class_of constraints chosen row) row (record { allowed = possible.allowed place d inside; lawful = lawful_from_possible schema constraints rows possible place d inside; of_class = refl })

-- ---- the column of a query

-- the query has a column of numbers
pub record AsksNumbers (schema : Schema) (query : Query) : Type 0 where
  pub column : ℕ
  pub column_is : query.column ≡ Some column
  pub numeric : IsColumnWhere IsNumeric schema column

asks_column : (schema : Schema) (query : Query) (column : Option ℕ) → query.column ≡ column → IsSomeAnd column (IsColumnWhere IsNumeric schema) → AsksNumbers schema query
asks_column schema query None is numeric = absurd numeric
asks_column schema query (Some column) is numeric = record { column = column; column_is = is; numeric = numeric }

-- every aggregate but a count
abbrev pub IsOfNumbers : Agg → Type 0
IsOfNumbers Count = ⊥
IsOfNumbers Sum = ⊤
IsOfNumbers Min = ⊤
IsOfNumbers Max = ⊤
IsOfNumbers Avg = ⊤

measured_numbers : (schema : Schema) (agg : Agg) (column : Option ℕ) → IsOfNumbers agg → Measures schema agg column → IsSomeAnd column (IsColumnWhere IsNumeric schema)
measured_numbers schema Count column of measured = absurd of
measured_numbers schema Sum column of measured = measured
measured_numbers schema Min column of measured = measured
measured_numbers schema Max column of measured = measured
measured_numbers schema Avg column of measured = measured

pub asks_numbers : (schema : Schema) (query : Query) (agg : Agg) → IsQuery schema query → query.agg ≡ agg → IsOfNumbers agg → AsksNumbers schema query
asks_numbers schema query agg well is of =
    asks_column schema query query.column refl (measured_numbers schema agg query.column of (subst (λ (a : Agg). Measures schema a query.column) is well.measured))

pub sum_asks_numbers : (schema : Schema) (query : Query) → IsQuery schema query → query.agg ≡ Sum → AsksNumbers schema query
sum_asks_numbers schema query well is = asks_numbers schema query Sum well is tt

module _ (s : Setting) (formed : IsWellFormed s.question.schema) (tree : IsSettledTree s.question.schema s.question.constraints (area_of s.question) s.nodes)
    (asks : AsksNumbers s.question.schema s.question.query) where
  -- the row's number lies between the ends of its cell
  abbrev pub IsBetweenEnds : Row → Type 0
  IsBetweenEnds row =
      (low_in s (class_of s.question.constraints (area_of s.question) row) ≤ℤ asked s.question.query row)
      × (asked s.question.query row ≤ℤ high_in s (class_of s.question.constraints (area_of s.question) row))

  pub asked_between : (lost : List Row) → IsPossible s.question.schema s.question.constraints lost → All IsBetweenEnds lost
  asked_between lost possible place d inside =
      rw asks.column_is (possible_between s.question.schema s.question.constraints (area_of s.question) s.nodes formed tree asks.column asks.numeric lost possible place d inside)
