-- What a fold of the rows of an area says of a column.
use Rattle.std.proofs.Common.{◌≡◌, ◌∙◌, ℕ, ℤ, ◌&&◌, Bool, true, false, cond, List, [], ◌∷◌, filter, Some, None, refl, ap, ap₂}
use Rattle.std.specs.Int.{int_min, int_max}
use Rattle.pc_model.specs.declared.area.Area.{Area}
use Rattle.pc_model.specs.declared.row.Row.{Row}
use Rattle.pc_model.specs.declared.query.Folded.{Folded}
use Rattle.pc_model.specs.declared.query.Query.{Query}
use Rattle.pc_model.specs.Aggregate.{kept}
use Rattle.pc_model.specs.Folds.{IsFold, best_at}
use Rattle.pc_model.specs.Membership.{is_in}
use Rattle.pc_desk_history.specs.Periods.{extent_from, extent_of, rows_in}

kept_by : (area : Area) (rows : List Row) → filter (λ row. is_in area row && true) rows ≡ rows_in area rows
kept_by area [] = refl
kept_by area (row ∷ rows) = by_test (is_in area row) (kept_by area rows)
  where
    by_test : (test : Bool) → filter (λ r. is_in area r && true) rows ≡ rows_in area rows →
        cond (test && true) (row ∷ filter (λ r. is_in area r && true) rows) (filter (λ r. is_in area r && true) rows)
        ≡ cond test (row ∷ rows_in area rows) (rows_in area rows)
    by_test true later = ap (λ (more : List Row). row ∷ more) later
    by_test false later = later

pub extent_folded : (query : Query) (column : ℕ) (rows : List Row) (folded : Folded) → query.column ≡ Some column → query.group ≡ None → IsFold query None rows folded →
    extent_from folded.least folded.greatest ≡ extent_of column (rows_in query.chosen rows)
extent_folded query column rows folded measured alone fold =
    ap₂ extent_from (fold.least ∙ of int_min) (fold.greatest ∙ of int_max)
  where
    ungrouped : kept query None rows ≡ rows_in query.chosen rows
    ungrouped = rw alone (kept_by query.chosen rows)

    of : (pick : ℤ → ℤ → ℤ) → best_at pick query.column (kept query None rows) ≡ best_at pick (Some column) (rows_in query.chosen rows)
    of pick = rw (measured, ungrouped) refl
