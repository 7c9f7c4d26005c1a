-- What is shown of a trial is a sheet, so that its table is read back.
use Rattle.std.proofs.Common.{◌≤◌, List, [], ◌∷◌, ◌++◌, All, length, map, arith}
use Rattle.std.proofs.lemmas.List.Elements.{All-cons, All-nil}
use Rattle.pc_desk_table.specs.declared.sheet.Cell.{Cell}
use Rattle.pc_desk_table.specs.Reading.{IsReadAs, sheet_rows}
use Rattle.pc_desk_table.specs.Sheets.{sheet_table}
use Rattle.pc_desk_table.proofs.SheetBack.{sheets_are_read_back}
use Rattle.pc_desk_try.specs.declared.tried.Trial.{Trial}
use Rattle.pc_desk_try.specs.declared.tried.Tried.{Tried}
use Rattle.pc_desk_try.specs.Shown.{none_cells, sheet_of, tried_cells}

abbrev pub HasCells : List Cell → Type 0
HasCells row = 1 ≤ length row

all_filled : (each : List Tried) (last : List Cell) → HasCells last → All HasCells (map tried_cells each ++ last ∷ [])
all_filled [] last filled = All-cons HasCells last [] filled (All-nil HasCells)
all_filled (tried ∷ each) last filled = All-cons HasCells (tried_cells tried) (map tried_cells each ++ last ∷ []) (omega arith) (all_filled each last filled)

pub trials_are_read_back : (trial : Trial) → IsReadAs (sheet_table (sheet_of trial)) (sheet_rows (sheet_of trial))
trials_are_read_back trial = sheets_are_read_back (sheet_of trial) (record { titled = omega arith; filled = all_filled trial.each (none_cells trial.under_none) (omega arith) })
