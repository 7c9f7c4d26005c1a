use Rattle.pc_simplex_tableau.specs.Tableau.{turned_row}
use Rattle.pc_simplex_tableau.specs.Conditions.{IsSizedRow, does_turned_row_fit}
use Rattle.pc_simplex_tableau.proofs.Changed.{IsMadeTo}
use Rattle.pc_simplex_tableau.proofs.rows.turn_all.Given as goal

abbrev pub invariant-loop-row : goal.invariant-loop-row
invariant-loop-row l = IsMadeTo (turned_row l.columns l.column l.range) (does_turned_row_fit l.columns l.column l.range) (IsSizedRow l.columns) l.fn.rows l.rows l.row-index
