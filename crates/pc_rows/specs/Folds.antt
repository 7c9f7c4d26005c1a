-- A fold with one more row.
use Rattle.std.specs.Prelude.{◌≡◌, ℕ, ◌+◌, ◌*◌, ◌^◌, ℤ, pos, neg_ℤ, ◌+ℤ◌, ◌≤ℤ◌, Option, Some, None}
use Rattle.std.specs.Int.{int_min, int_max}
use Rattle.pc_model.specs.declared.row.Row.{Row}
use Rattle.pc_model.specs.declared.query.Folded.{Folded}
use Rattle.pc_model.specs.Aggregate.{number_at}
use Rattle.pc_model.specs.Folds.{better}

abbrev pub sum_with : Option ℕ → ℤ → Row → ℤ
sum_with None sum row = sum
sum_with (Some column) sum row = sum +ℤ number_at row column

abbrev pub best_with : (ℤ → ℤ → ℤ) → Option ℕ → Option ℤ → Row → Option ℤ
best_with pick None best row = best
best_with pick (Some column) best row = Some (better pick best (number_at row column))

-- a fold with one more row
pub record IsWithRow (column : Option ℕ) (folded : Folded) (row : Row) (more : Folded) : Type 0 where
  pub count : more.count ≡ folded.count + 1
  pub sum : more.sum ≡ sum_with column folded.sum row
  pub least : more.least ≡ best_with int_min column folded.least row
  pub greatest : more.greatest ≡ best_with int_max column folded.greatest row

-- the sum is one that so many numbers of 64 bits can have
pub record IsSmall (folded : Folded) : Type 0 where
  pub above : neg_ℤ (pos (folded.count * 2 ^ 63)) ≤ℤ folded.sum
  pub below : folded.sum ≤ℤ pos (folded.count * 2 ^ 63)
