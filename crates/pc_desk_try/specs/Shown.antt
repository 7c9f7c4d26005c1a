-- What is shown of a trial.
use Rattle.std.specs.Prelude.{ℕ, true, false, List, [], ◌∷◌, ◌++◌, map, codes, Option, Some, None}
use Rattle.pc_desk_table.specs.declared.sheet.Cell.{Cell}
use Rattle.pc_desk_table.specs.declared.sheet.Cell.TheVariants.{Count, Empty, Truth, Word}
use Rattle.pc_desk_table.specs.declared.sheet.Sheet.{Sheet}
use Rattle.pc_desk_table.specs.declared.sheet.Title.{Title}
use Rattle.pc_desk_try.specs.declared.tried.Trial.{Trial}
use Rattle.pc_desk_try.specs.declared.tried.Tried.{Tried}

abbrev pub left : List ℕ → Title
left name = record { name = name; right = false }

abbrev pub right : List ℕ → Title
right name = record { name = name; right = true }

abbrev pub titles : List Title
titles =
    left (codes "constraint") ∷ right (codes "rows") ∷ right (codes "broken") ∷ right (codes "first_broken") ∷ right (codes "least")
    ∷ right (codes "most") ∷ right (codes "within") ∷ []

abbrev pub count_or_empty : Option ℕ → Cell
count_or_empty None = Empty
count_or_empty (Some count) = Count count

abbrev pub tried_cells : Tried → List Cell
tried_cells tried =
    Word tried.name ∷ Count tried.counts.rows ∷ Count tried.counts.broken ∷ count_or_empty tried.counts.first ∷ Count tried.least
    ∷ Count tried.most ∷ Truth tried.within ∷ []

abbrev pub none_cells : ℕ → List Cell
none_cells count = Word (codes "(none)") ∷ Count count ∷ Empty ∷ Empty ∷ Empty ∷ Empty ∷ Empty ∷ []

-- a row for each constraint, and one for the rows of which none speaks
abbrev pub sheet_of : Trial → Sheet
sheet_of trial = record { titles = titles; rows = map tried_cells trial.each ++ none_cells trial.under_none ∷ [] }
