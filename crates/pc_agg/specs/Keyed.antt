-- What cells gain, and how many rows they can have, by their keys.
use Rattle.std.specs.Prelude.{ℕ, ℤ, pos, int_le, int_lt, ◌&&◌, cond, List, length, map}
use Rattle.pc_model.specs.declared.constraint.Constraint.{Constraint}
use Rattle.pc_program_bound.specs.declared.program.Program.{Program}
use Rattle.pc_program_bound.specs.Sums.{nat_at, int_at}
use Rattle.pc_program_bound.specs.CellPrograms.{program_with}
use Rattle.pc_simplex_tableau.specs.Numbers.{table}
use Rattle.pc_cells.specs.declared.cells.Cell.{Cell}
use Rattle.pc_cells.specs.Found.{class_of_cell}
use Rattle.pc_agg.specs.declared.ladder.Test.{Test}
use Rattle.pc_agg.specs.declared.ladder.Test.TheVariants.{Reach, Avoid}
use Rattle.pc_agg_search.specs.Targets.{cell_at, chosen_gain}

-- one for a chosen cell whose key reaches the rung
abbrev pub reach_gain : List Cell → List ℤ → ℤ → ℕ → ℤ
reach_gain cells keys rung i = cond ((cell_at cells i).chosen && int_le rung (int_at keys i)) (pos 1) (pos 0)

-- no rows for a chosen cell whose key falls short of the rung
abbrev pub avoid_cap : List Cell → List ℤ → List ℕ → ℤ → ℕ → ℕ
avoid_cap cells keys caps rung i = cond ((cell_at cells i).chosen && int_lt (int_at keys i) rung) 0 (nat_at caps i)

-- the program with such caps
abbrev pub with_closed : Program → List Cell → List ℤ → ℤ → Program
with_closed p cells keys rung = record p { cap = table (length cells) (avoid_cap cells keys p.cap rung) }

-- the program that tests a rung
abbrev pub tested_program : List Constraint → List Cell → List ℤ → ℤ → Test → Program
tested_program constraints cells keys rung Reach = program_with constraints (map class_of_cell cells) (table (length cells) (reach_gain cells keys rung))
tested_program constraints cells keys rung Avoid =
    with_closed (program_with constraints (map class_of_cell cells) (table (length cells) (chosen_gain cells (pos 1)))) cells keys rung
