-- What is shown of explanations.
use Rattle.std.specs.Prelude.{ℕ, ℤ, true, false, List, [], ◌∷◌, ◌++◌, codes, flat_map, map, Option, Some, None}
use Rattle.pc_model.specs.declared.constraint.Constraint.{Constraint}
use Rattle.pc_desk_parts.specs.declared.part.Adds.{Adds}
use Rattle.pc_desk_parts.specs.declared.part.Adds.TheVariants.{Amount, Nothing, Stands}
use Rattle.pc_desk_parts.specs.declared.part.Hold.{Hold}
use Rattle.pc_desk_parts.specs.declared.part.Part.{Part}
use Rattle.pc_desk_short.specs.declared.clash_line.ClashLine.{ClashLine}
use Rattle.pc_desk_table.specs.declared.sheet.Cell.{Cell}
use Rattle.pc_desk_table.specs.declared.sheet.Cell.TheVariants.{Count, Empty, Word}
use Rattle.pc_desk_table.specs.declared.sheet.Sheet.{Sheet}
use Rattle.pc_desk_table.specs.declared.sheet.Title.{Title}
use Rattle.pc_desk_why.specs.declared.explained.Explained.{Explained}
use Rattle.pc_desk_why.specs.declared.explained.Found.{Found}
use Rattle.pc_desk_why.specs.declared.explained.Found.TheVariants.{Ends, Impossible, NoValue}
use Rattle.pc_desk_why.specs.declared.explained.MadeEnd.{MadeEnd}
use Rattle.pc_desk_why.specs.declared.explained.MadeEnd.TheVariants.{NotReached, Parts}
use Rattle.pc_desk_why.specs.Texts.{holds_text, names_text, number_text, stand_word}

abbrev pub left : List ℕ → Title
left name = record { name = name; right = false }

abbrev pub right : List ℕ → Title
right name = record { name = name; right = true }

abbrev pub why_titles : List Title
why_titles =
    left (codes "query") ∷ left (codes "group") ∷ left (codes "end") ∷ right (codes "rows") ∷ right (codes "value") ∷ right (codes "adds")
    ∷ left (codes "under") ∷ left (codes "held") ∷ []

-- ---- cells

abbrev pub word_or_empty : List ℕ → Cell
word_or_empty [] = Empty
word_or_empty (byte ∷ rest) = Word (byte ∷ rest)

abbrev pub group_cell : Option (List ℕ) → Cell
group_cell None = Empty
group_cell (Some name) = Word name

abbrev pub value_cell : Option ℤ → ℕ → Cell
value_cell None places = Empty
value_cell (Some number) places = Word (number_text number places)

abbrev pub added_cell : Adds → ℕ → Cell
added_cell Nothing places = Empty
added_cell (Amount amount) places = Word (number_text amount places)
added_cell (Stands stand) places = Word (stand_word stand)

-- observed rows are under no constraint
abbrev pub under_cell : List Constraint → Option (List ℕ) → Cell
under_cell constraints None = Word (codes "observed")
under_cell constraints (Some places) = Word (names_text constraints places)

abbrev pub held_cell : List Constraint → List Hold → Cell
held_cell constraints [] = Empty
held_cell constraints (first ∷ rest) = Word (holds_text constraints (first ∷ rest))

-- ---- rows

abbrev pub part_cells : List Constraint → Explained → List ℕ → Part → List Cell
part_cells constraints told end part =
    Word told.query ∷ group_cell told.group ∷ Word end ∷ Count part.rows ∷ value_cell part.value told.places
    ∷ added_cell part.adds told.places ∷ under_cell constraints part.under ∷ held_cell constraints part.held ∷ []

abbrev pub said_cells : Explained → List ℕ → List ℕ → List Cell
said_cells told end said =
    Word told.query ∷ group_cell told.group ∷ word_or_empty end ∷ Empty ∷ Empty ∷ Empty ∷ Empty ∷ Word said ∷ []

-- a line on why the constraints are impossible
abbrev pub clash_cells : Explained → ClashLine → List Cell
clash_cells told line =
    Word told.query ∷ group_cell told.group ∷ Word (codes "impossible") ∷ Empty ∷ Empty ∷ Empty ∷ word_or_empty line.under ∷ Word line.held ∷ []

abbrev pub end_rows : List Constraint → Explained → List ℕ → MadeEnd → List (List Cell)
end_rows constraints told end (Parts parts) = map (part_cells constraints told end) parts
end_rows constraints told end NotReached = said_cells told end (codes "not reached") ∷ []

-- of an answer that is impossible one for each of the lines on why
abbrev pub found_rows : List Constraint → List ClashLine → Explained → Found → List (List Cell)
found_rows constraints lines told (Ends low high) = end_rows constraints told (codes "low") low ++ end_rows constraints told (codes "high") high
found_rows constraints lines told NoValue = said_cells told [] (codes "no value") ∷ []
found_rows constraints lines told Impossible = map (clash_cells told) lines

abbrev pub told_rows : List Constraint → List ClashLine → Explained → List (List Cell)
told_rows constraints lines told = found_rows constraints lines told told.found

-- for each end a row for every part, or one that says why it has none
abbrev pub why_sheet : List Constraint → List ClashLine → List Explained → Sheet
why_sheet constraints lines all = record { titles = why_titles; rows = flat_map (told_rows constraints lines) all }
