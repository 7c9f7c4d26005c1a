-- Rows that have the least or the greatest number of their cell in the query's column.
use Rattle.std.specs.Prelude.{◌≡◌, List}
use Rattle.std.specs.List.{AllZip}
use Rattle.pc_model.specs.declared.row.Row.{Row}
use Rattle.pc_model.specs.Aggregate.{asked}
use Rattle.pc_model.specs.Cells.{Class, IsRowOf}
use Rattle.pc_proof.specs.Setting.{Setting, area_of, cells, low_in, high_in}

abbrev pub IsOfCell : Setting → Class → Row → Type 0
IsOfCell s class row = IsRowOf s.question.schema s.question.constraints (area_of s.question) class row

pub record IsLowest (s : Setting) (class : Class) (row : Row) : Type 0 where
  pub of_cell : IsOfCell s class row
  pub number : asked s.question.query row ≡ low_in s class

pub record IsHighest (s : Setting) (class : Class) (row : Row) : Type 0 where
  pub of_cell : IsOfCell s class row
  pub number : asked s.question.query row ≡ high_in s class

-- a row of each cell, and those with the least or the greatest numbers
abbrev pub AreOfCells : Setting → List Row → Type 0
AreOfCells s picks = AllZip (IsOfCell s) (cells s) picks

abbrev pub AreLowest : Setting → List Row → Type 0
AreLowest s picks = AllZip (IsLowest s) (cells s) picks

abbrev pub AreHighest : Setting → List Row → Type 0
AreHighest s picks = AllZip (IsHighest s) (cells s) picks
