-- What a fold of rows says of the rows that a query chooses, of one group or of all.
use Rattle.std.specs.Prelude.{◌≡◌, ℕ, ℤ, pos, List, length, map, Option, Some, None}
use Rattle.std.specs.List.{reduce}
use Rattle.std.specs.Int.{int_min, int_max}
use Rattle.pc_model.specs.declared.row.Row.{Row}
use Rattle.pc_model.specs.declared.query.Query.{Query}
use Rattle.pc_model.specs.declared.query.Folded.{Folded}
use Rattle.pc_model.specs.Aggregate.{int_sum, kept, number_at}

-- the sum of the numbers in a column, and 0 without a column
abbrev pub sum_at : Option ℕ → List Row → ℤ
sum_at None rows = pos 0
sum_at (Some column) rows = int_sum (map (λ (row : Row). number_at row column) rows)

-- the numbers in a column made into one, as the least or the greatest, if there is a column and a row
abbrev pub best_at : (ℤ → ℤ → ℤ) → Option ℕ → List Row → Option ℤ
best_at pick None rows = None
best_at pick (Some column) rows = reduce pick (map (λ (row : Row). number_at row column) rows)

-- the count, sum, least and greatest of the rows that the query keeps, where a name is given those of its group
pub record IsFold (query : Query) (name : Option ℕ) (rows : List Row) (folded : Folded) : Type 0 where
  pub count : folded.count ≡ length (kept query name rows)
  pub sum : folded.sum ≡ sum_at query.column (kept query name rows)
  pub least : folded.least ≡ best_at int_min query.column (kept query name rows)
  pub greatest : folded.greatest ≡ best_at int_max query.column (kept query name rows)

-- what a number makes of the best of those before it
abbrev pub better : (ℤ → ℤ → ℤ) → Option ℤ → ℤ → ℤ
better pick None number = number
better pick (Some other) number = pick other number
