-- The numbers of cells at an end, and rows that have them.
use Rattle.std.specs.Prelude.{◌≡◌, ℤ, neg_ℤ}
use Rattle.pc_model.specs.declared.row.Row.{Row}
use Rattle.pc_model.specs.Aggregate.{asked}
use Rattle.pc_model.specs.Cells.{Class, IsRowOf, boxes_of}
use Rattle.pc_proof.specs.Setting.{Setting, leaves, low_in, high_in}
use Rattle.pc_agg_search.specs.declared.extreme.Extreme.{Extreme}
use Rattle.pc_agg_search.specs.declared.extreme.Extreme.TheVariants.{Low, High}
use Rattle.pc_agg_search.specs.Ends.{signed}
use Rattle.pc_agg_search.specs.FirstRows.{IsFirstRow}

-- the number of a cell at an end, turned so that a greater key is farther out
abbrev pub key_of : Setting → Extreme → Class → ℤ
key_of s Low class = neg_ℤ (low_in s class)
key_of s High class = high_in s class

-- the row of the cell that is shown, which has the cell's number at the end
pub record IsAtEnd (s : Setting) (extreme : Extreme) (class : Class) (row : Row) : Type 0 where
  pub of_cell : IsRowOf s.question.schema s.question.constraints s.question.query.chosen class row
  pub number : signed extreme (asked s.question.query row) ≡ key_of s extreme class
  pub shown : IsFirstRow s.question.query.column extreme (boxes_of (leaves s) class) row
