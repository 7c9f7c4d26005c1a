-- What is shown of the classes that constraints open.
use Rattle.std.specs.Prelude.{ℕ, ◌==◌, not, Bool, true, false, cond, List, [], ◌∷◌, ◌++◌, codes, length, None, if◌then◌else◌}
use Rattle.std.specs.List.{enumerate_from, flat_map}
use Rattle.pc_model.specs.declared.constraint.Constraint.{Constraint}
use Rattle.pc_model.specs.declared.query.Agg.TheVariants.{Count as counts}
use Rattle.pc_model.specs.declared.query.Query.{Query}
use Rattle.pc_model.specs.declared.region.Region.{Region}
use Rattle.pc_model.specs.declared.schema.Schema.{Schema}
use Rattle.pc_model.specs.Places.{has_bit}
use Rattle.pc_model.specs.Regions.{one_box}
use Rattle.pc_lang.specs.Canonical.{query_text}
use Rattle.pc_desk_table.specs.declared.sheet.Cell.{Cell}
use Rattle.pc_desk_table.specs.declared.sheet.Cell.TheVariants.{Count, Word}
use Rattle.pc_desk_table.specs.declared.sheet.Sheet.{Sheet}
use Rattle.pc_desk_table.specs.declared.sheet.Title.{Title}
use Rattle.pc_desk_table.specs.Texts.{shown}
use Rattle.pc_desk_try.specs.declared.opening.Opening.{Opening}
use Rattle.pc_desk_try.specs.Shown.{left, right}
use Rattle.pc_desk_try.specs.Trials.{name_of}

abbrev pub opening_titles : List Title
opening_titles = left (codes "constraint") ∷ right (codes "least") ∷ right (codes "most") ∷ right (codes "boxes") ∷ left (codes "query") ∷ []

-- a query that counts the rows of a box, and its text
abbrev pub count_of_box : Region → Query
count_of_box region = record { agg = counts; column = None; chosen = one_box region; group = None }

abbrev pub query_shown : Schema → Region → List ℕ
query_shown schema region = shown (query_text schema (count_of_box region))

abbrev pub member_cells : ℕ → List ℕ → Constraint → List Cell
member_cells boxes query c = Word (name_of c.when c.name) ∷ Count c.least ∷ Count c.most ∷ Count boxes ∷ Word query ∷ []

-- a row for a constraint whose bit is set
abbrev pub member_row : Opening → List ℕ → ℕ × Constraint → List (List Cell)
member_row opening query entry = if has_bit opening.mask entry.0 then member_cells opening.boxes query entry.1 ∷ [] else []

abbrev pub member_rows : Opening → List ℕ → List Constraint → List (List Cell)
member_rows opening query constraints = flat_map (member_row opening query) (enumerate_from 0 constraints)

abbrev pub opening_rows : Schema → List Constraint → Opening → List (List Cell)
opening_rows schema constraints opening = member_rows opening (query_shown schema opening.region) constraints

-- a class of one constraint, or one of another number of them
abbrev pub is_wanted : Bool → ℕ → Bool
is_wanted alone count = cond alone (count == 1) (not (count == 1))

abbrev pub rows_if : Bool → Schema → List Constraint → Opening → List (List Cell)
rows_if alone schema constraints opening =
    if is_wanted alone (length (opening_rows schema constraints opening)) then opening_rows schema constraints opening else []

-- the classes of which one constraint speaks, and then the others
abbrev pub openings_sheet : Schema → List Constraint → List Opening → Sheet
openings_sheet schema constraints openings = record {
  titles = opening_titles;
  rows = flat_map (rows_if true schema constraints) openings ++ flat_map (rows_if false schema constraints) openings;
}
