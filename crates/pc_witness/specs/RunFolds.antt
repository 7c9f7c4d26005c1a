-- A fold with the rows of one run more, all of which the query keeps.
use Rattle.std.specs.Prelude.{◌≡◌, ℕ, ◌+◌, ℤ, pos, ◌+ℤ◌, ◌*ℤ◌, Option, Some, None}
use Rattle.std.specs.Int.{int_min, int_max}
use Rattle.pc_model.specs.declared.row.Run.{Run}
use Rattle.pc_model.specs.declared.query.Folded.{Folded}
use Rattle.pc_model.specs.Aggregate.{number_at}
use Rattle.pc_model.specs.Folds.{better}

abbrev pub sum_with : Option ℕ → ℤ → Run → ℤ
sum_with None sum run = sum
sum_with (Some column) sum run = sum +ℤ (number_at run.row column *ℤ pos run.times)

abbrev pub best_with : (ℤ → ℤ → ℤ) → Option ℕ → Option ℤ → Run → Option ℤ
best_with pick None best run = best
best_with pick (Some column) best run = Some (better pick best (number_at run.row column))

-- a fold with the rows of one run more
pub record IsWithRun (column : Option ℕ) (folded : Folded) (run : Run) (more : Folded) : Type 0 where
  pub count : more.count ≡ folded.count + run.times
  pub sum : more.sum ≡ sum_with column folded.sum run
  pub least : more.least ≡ best_with int_min column folded.least run
  pub greatest : more.greatest ≡ best_with int_max column folded.greatest run
