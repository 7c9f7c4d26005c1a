-- What is shown of explanations is a sheet, so that its table is read back.
use Rattle.std.proofs.Common.{◌≤◌, ℕ, List, [], ◌∷◌, All, length, map, arith}
use Rattle.std.specs.List.{flat_map}
use Rattle.std.proofs.lemmas.List.Elements.{All-append, All-cons, All-nil}
use Rattle.pc_model.specs.declared.constraint.Constraint.{Constraint}
use Rattle.pc_desk_parts.specs.declared.part.Part.{Part}
use Rattle.pc_desk_short.specs.declared.clash_line.ClashLine.{ClashLine}
use Rattle.pc_desk_table.specs.declared.sheet.Cell.{Cell}
use Rattle.pc_desk_table.specs.Reading.{IsReadAs, sheet_rows}
use Rattle.pc_desk_table.specs.Sheets.{sheet_table}
use Rattle.pc_desk_table.proofs.SheetBack.{sheets_are_read_back}
use Rattle.pc_desk_why.specs.declared.explained.Explained.{Explained}
use Rattle.pc_desk_why.specs.declared.explained.Found.{Found}
use Rattle.pc_desk_why.specs.declared.explained.Found.TheVariants.{Ends, Impossible, NoValue}
use Rattle.pc_desk_why.specs.declared.explained.MadeEnd.{MadeEnd}
use Rattle.pc_desk_why.specs.declared.explained.MadeEnd.TheVariants.{NotReached, Parts}
use Rattle.pc_desk_why.specs.Shown.{clash_cells, end_rows, found_rows, part_cells, said_cells, told_rows, why_sheet}
use Rattle.std.proofs.Common.{codes}

abbrev HasCells : List Cell → Type 0
HasCells row = 1 ≤ length row

module _ (constraints : List Constraint) (told : Explained) where
  one_filled : (row : List Cell) → HasCells row → All HasCells (row ∷ [])
  one_filled row filled = All-cons HasCells row [] filled (All-nil HasCells)

  parts_filled : (end : List ℕ) (parts : List Part) → All HasCells (map (part_cells constraints told end) parts)
  parts_filled end [] = All-nil HasCells
  parts_filled end (part ∷ parts) = All-cons HasCells (part_cells constraints told end part) (map (part_cells constraints told end) parts) (omega arith) (parts_filled end parts)

  end_filled : (end : List ℕ) (made : MadeEnd) → All HasCells (end_rows constraints told end made)
  end_filled end (Parts parts) = parts_filled end parts
  end_filled end NotReached = one_filled (said_cells told end (codes "not reached")) (omega arith)

  clash_filled : (lines : List ClashLine) → All HasCells (map (clash_cells told) lines)
  clash_filled [] = All-nil HasCells
  clash_filled (line ∷ lines) = All-cons HasCells (clash_cells told line) (map (clash_cells told) lines) (omega arith) (clash_filled lines)

  found_filled : (lines : List ClashLine) (found : Found) → All HasCells (found_rows constraints lines told found)
  found_filled lines (Ends low high) =
      All-append HasCells (end_rows constraints told (codes "low") low) (end_rows constraints told (codes "high") high)
      (end_filled (codes "low") low) (end_filled (codes "high") high)
  found_filled lines NoValue = one_filled (said_cells told [] (codes "no value")) (omega arith)
  found_filled lines Impossible = clash_filled lines

module _ (constraints : List Constraint) (lines : List ClashLine) where
  all_filled : (all : List Explained) → All HasCells (flat_map (told_rows constraints lines) all)
  all_filled [] = All-nil HasCells
  all_filled (told ∷ all) =
      All-append HasCells (told_rows constraints lines told) (flat_map (told_rows constraints lines) all) (found_filled constraints told lines told.found) (all_filled all)

  pub explanations_are_read_back : (all : List Explained) → IsReadAs (sheet_table (why_sheet constraints lines all)) (sheet_rows (why_sheet constraints lines all))
  explanations_are_read_back all = sheets_are_read_back (why_sheet constraints lines all) (record { titled = omega arith; filled = all_filled all })
