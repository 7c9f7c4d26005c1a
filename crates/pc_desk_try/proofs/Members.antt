-- The rows of a class's constraints, as far as a loop has come, and the query of its box.
use Rattle.std.proofs.Common.{◌≡◌, ◌∙◌, ℕ, ◌+◌, ◌<◌, Bool, true, false, List, [], ◌∷◌, ◌++◌, All, Ok, get_or, length, take, refl, ap, arith, append-nil}
use Rattle.std.specs.Prelude.{if◌then◌else◌}
use Rattle.std.specs.List.{enumerate_from, flat_map}
use Rattle.std.proofs.lemmas.List.Concat.{flat_map-append}
use Rattle.std.proofs.lemmas.List.Elements.{All-append, All-cons, All-nil}
use Rattle.pc_model.specs.declared.constraint.Constraint.{Constraint}
use Rattle.pc_model.specs.declared.region.Region.{Region}
use Rattle.pc_model.specs.declared.schema.Schema.{Schema}
use Rattle.pc_model.specs.Accepted.{IsQuery}
use Rattle.pc_model.specs.Places.{has_bit}
use Rattle.pc_model.specs.Regions.{is_region_of}
use Rattle.pc_model.specs.WellFormed.{IsWellFormed}
use Rattle.pc_lang.specs.Canonical.{query_text}
use Rattle.pc_lang.specs.Files.{query_from}
use Rattle.pc_lang.proofs.ReadBack.{query_reads_back}
use Rattle.pc_desk_table.specs.declared.sheet.Cell.{Cell}
use Rattle.pc_desk_table.specs.Reading.{IsReadAs, sheet_rows}
use Rattle.pc_desk_table.specs.Sheets.{sheet_table}
use Rattle.pc_desk_table.proofs.Enumerated.{enumerate_more}
use Rattle.pc_desk_table.proofs.SheetBack.{sheets_are_read_back}
use Rattle.pc_desk_try.proofs.Back.{HasCells}
use Rattle.pc_desk_try.specs.declared.opening.Opening.{Opening}
use Rattle.pc_desk_try.specs.Opened.{count_of_box, is_wanted, member_cells, member_row, member_rows, opening_rows, openings_sheet, query_shown, rows_if}

module _ (opening : Opening) (query : List ℕ) (constraints : List Constraint) (place : ℕ) (c : Constraint) (here : place < length constraints) where
  member_more : member_rows opening query (take (place + 1) constraints) ≡ member_rows opening query (take place constraints) ++ member_row opening query (place, get_or constraints place c)
  member_more =
      ap (flat_map (member_row opening query)) (enumerate_more constraints place c here)
      ∙ flat_map-append (member_row opening query) (enumerate_from 0 (take place constraints)) ((place, get_or constraints place c) ∷ [])
      ∙ ap (λ (rows : List (List Cell)). member_rows opening query (take place constraints) ++ rows) (append-nil (member_row opening query (place, get_or constraints place c)))

  pub member_in : has_bit opening.mask place ≡ true → member_rows opening query (take (place + 1) constraints) ≡ member_rows opening query (take place constraints) ++ member_cells opening.boxes query (get_or constraints place c) ∷ []
  member_in is = member_more ∙ ap (λ (test : Bool). member_rows opening query (take place constraints) ++ (if test then member_cells opening.boxes query (get_or constraints place c) ∷ [] else [])) is

  pub member_out : has_bit opening.mask place ≡ false → member_rows opening query (take (place + 1) constraints) ≡ member_rows opening query (take place constraints)
  member_out is =
      member_more ∙ ap (λ (test : Bool). member_rows opening query (take place constraints) ++ (if test then member_cells opening.boxes query (get_or constraints place c) ∷ [] else [])) is
      ∙ append-nil (member_rows opening query (take place constraints))

-- ---- the query of a box

pub counts_box : (schema : Schema) (region : Region) → is_region_of schema region ≡ true → IsQuery schema (count_of_box region)
counts_box schema region own = record {
  chosen = record { some = omega arith; few = omega arith; each = All-cons (λ (box : Region). is_region_of schema box ≡ true) region [] own (All-nil (λ (box : Region). is_region_of schema box ≡ true)) };
  measured = refl;
  grouped = tt;
}

pub opening_queries_are_read_back : (schema : Schema) (region : Region) → IsWellFormed schema → is_region_of schema region ≡ true → query_from schema (query_text schema (count_of_box region)) ≡ Ok (count_of_box region)
opening_queries_are_read_back schema region formed own = query_reads_back schema (count_of_box region) formed (counts_box schema region own)

-- ---- the table is read back

member_filled : (opening : Opening) (query : List ℕ) (entries : List (ℕ × Constraint)) → All HasCells (flat_map (member_row opening query) entries)
member_filled opening query [] = All-nil HasCells
member_filled opening query (entry ∷ entries) = All-append HasCells (member_row opening query entry) (flat_map (member_row opening query) entries) (by (has_bit opening.mask entry.0)) (member_filled opening query entries)
  where
    by : (test : Bool) → All HasCells (if test then member_cells opening.boxes query entry.1 ∷ [] else [])
    by true = All-cons HasCells (member_cells opening.boxes query entry.1) [] (omega arith) (All-nil HasCells)
    by false = All-nil HasCells

opening_filled : (alone : Bool) (schema : Schema) (constraints : List Constraint) (opening : Opening) → All HasCells (rows_if alone schema constraints opening)
opening_filled alone schema constraints opening = by (is_wanted alone (length (opening_rows schema constraints opening)))
  where
    by : (test : Bool) → All HasCells (if test then opening_rows schema constraints opening else [])
    by true = member_filled opening (query_shown schema opening.region) (enumerate_from 0 constraints)
    by false = All-nil HasCells

all_filled : (alone : Bool) (schema : Schema) (constraints : List Constraint) (openings : List Opening) → All HasCells (flat_map (rows_if alone schema constraints) openings)
all_filled alone schema constraints [] = All-nil HasCells
all_filled alone schema constraints (opening ∷ openings) =
    All-append HasCells (rows_if alone schema constraints opening) (flat_map (rows_if alone schema constraints) openings) (opening_filled alone schema constraints opening) (all_filled alone schema constraints openings)

pub openings_are_read_back : (schema : Schema) (constraints : List Constraint) (openings : List Opening) → IsReadAs (sheet_table (openings_sheet schema constraints openings)) (sheet_rows (openings_sheet schema constraints openings))
openings_are_read_back schema constraints openings = sheets_are_read_back (openings_sheet schema constraints openings) (record {
  titled = omega arith;
  filled = All-append HasCells (flat_map (rows_if true schema constraints) openings) (flat_map (rows_if false schema constraints) openings)
      (all_filled true schema constraints openings) (all_filled false schema constraints openings);
})
