-- What is shown of changes is a sheet, so that its table is read back.
use Rattle.std.proofs.Common.{◌≤◌, ℕ, ◌+◌, Bool, true, false, List, [], ◌∷◌, ◌++◌, All, length, arith, if◌then◌else◌}
use Rattle.std.specs.Prelude.{nat_lt}
use Rattle.std.specs.List.{enumerate_from, flat_map}
use Rattle.std.proofs.lemmas.List.Elements.{All-append, All-cons, All-nil}
use Rattle.pc_model.specs.declared.constraint.Constraint.{Constraint}
use Rattle.pc_desk_table.specs.declared.sheet.Cell.{Cell}
use Rattle.pc_desk_table.specs.Reading.{IsReadAs, IsTitled, sheet_rows}
use Rattle.pc_desk_table.specs.Sheets.{sheet_table}
use Rattle.pc_desk_table.proofs.SheetBack.{sheets_are_read_back}
use Rattle.pc_desk_weigh.specs.declared.weighed.Weighed.{Weighed}
use Rattle.pc_desk_widths.specs.Shown.{are_grouped, block_rows, cells_at, change_cell, end_cells, front_cells, group_cell, rows_at, weigh_sheet, weigh_titles}
use Rattle.pc_desk_widths.specs.Widths.{change_in, entry_at}

abbrev HasCells : List Cell → Type 0
HasCells row = 1 ≤ length row

front_filled : (grouped : Bool) (change group : Cell) (ends : List Cell) → HasCells (front_cells grouped change group ++ ends)
front_filled true change group ends = omega arith
front_filled false change group ends = omega arith

row_if : (there : Bool) (row : List Cell) → HasCells row → All HasCells (if there then row ∷ [] else [])
row_if true row filled = All-cons HasCells row [] filled (All-nil HasCells)
row_if false row filled = All-nil HasCells

titled : (grouped : Bool) → IsTitled (weigh_titles grouped)
titled true = omega arith
titled false = omega arith

module _ (constraints : List Constraint) (places : ℕ) (all : List Weighed) where
  at_filled : (block place : ℕ) → All HasCells (rows_at constraints places all block place)
  at_filled block place =
      row_if (nat_lt place (length all)) (cells_at constraints places all block place)
      (front_filled (are_grouped all) (change_cell constraints (change_in all place)) (group_cell (entry_at all place block)) (end_cells places all block place))

  changes_filled : (block : ℕ) (order : List ℕ) → All HasCells (flat_map (rows_at constraints places all block) order)
  changes_filled block [] = All-nil HasCells
  changes_filled block (place ∷ order) =
      All-append HasCells (rows_at constraints places all block place) (flat_map (rows_at constraints places all block) order)
      (at_filled block place) (changes_filled block order)

  block_filled : (turn : ℕ × List ℕ) → All HasCells (block_rows constraints places all turn)
  block_filled turn =
      All-append HasCells (rows_at constraints places all turn.0 0) (flat_map (rows_at constraints places all turn.0) turn.1)
      (at_filled turn.0 0) (changes_filled turn.0 turn.1)

  blocks_filled : (block : ℕ) (orders : List (List ℕ)) → All HasCells (flat_map (block_rows constraints places all) (enumerate_from block orders))
  blocks_filled block [] = All-nil HasCells
  blocks_filled block (order ∷ orders) =
      All-append HasCells (block_rows constraints places all (block, order)) (flat_map (block_rows constraints places all) (enumerate_from (block + 1) orders))
      (block_filled (block, order)) (blocks_filled (block + 1) orders)

  pub weighed_are_read_back : (orders : List (List ℕ))
      → IsReadAs (sheet_table (weigh_sheet constraints places all orders)) (sheet_rows (weigh_sheet constraints places all orders))
  weighed_are_read_back orders =
      sheets_are_read_back (weigh_sheet constraints places all orders) (record { titled = titled (are_grouped all); filled = blocks_filled 0 orders })
