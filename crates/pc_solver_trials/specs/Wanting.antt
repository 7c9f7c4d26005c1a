-- A cell that may have no row, in a constraint that wants one: the columns of its first phase, and where that starts.
use Rattle.std.specs.Prelude.{pos, negsuc, true, false, [], ◌∷◌, None}
use Rattle.pc_simplex_tableau.specs.Tableau.{Columns, TableauRow, Tableau}

abbrev pub wanting_columns : Columns
wanting_columns = record { ranges = 0 ∷ 0 ∷ []; count = 3; helper = None }

abbrev pub wanting_row : TableauRow
wanting_row = record { numbers = pos 1 ∷ negsuc 0 ∷ pos 1 ∷ pos 1 ∷ []; basic = 2 }

abbrev pub wanting_start : Tableau
wanting_start = record {
  rows = wanting_row ∷ [];
  turned = false ∷ true ∷ false ∷ [];
  aim = pos 1 ∷ negsuc 0 ∷ pos 0 ∷ [];
  weight = pos 1;
}
