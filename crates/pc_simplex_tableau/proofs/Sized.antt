-- The lengths of a tableau's rows, row by row.
use Rattle.std.proofs.Common.{◌≡◌, ◌<◌, ◌+◌, ℕ, length, All}
use Rattle.std.proofs.lemmas.List.Elements.{All-from_get_or}
use Rattle.pc_simplex_tableau.specs.Tableau.{Tableau, Columns, no_row, row_at}
use Rattle.pc_simplex_tableau.specs.Conditions.{IsSizedRow, IsSized}
use Rattle.pc_simplex_tableau.specs.Standing.{basic_at}

pub sized_row : {f : Columns} {t : Tableau} → IsSized f t → (r : ℕ) → r < length t.rows → length (row_at t r).numbers ≡ f.count + 1
sized_row sized r lt = (sized.rows r no_row lt).numbers

pub sized_basic : {f : Columns} {t : Tableau} → IsSized f t → (r : ℕ) → r < length t.rows → basic_at t r < f.count
sized_basic sized r lt = (sized.rows r no_row lt).basic

pub sized_rows : (f : Columns) (t : Tableau) → ((r : ℕ) → r < length t.rows → length (row_at t r).numbers ≡ f.count + 1) →
    ((r : ℕ) → r < length t.rows → basic_at t r < f.count) → All (IsSizedRow f) t.rows
sized_rows f t numbers basic = All-from_get_or (IsSizedRow f) t.rows no_row (λ r lt. record { numbers = numbers r lt; basic = basic r lt })
