use Rattle.std.proofs.Common.{◌≡◌, length}
use Rattle.pc_simplex_tableau.specs.Tableau.{freed_row, does_freed_row_fit}
use Rattle.pc_simplex_tableau.proofs.Changed.{IsMadeTo}
use Rattle.pc_simplex_tableau.proofs.rows.free_all.Given as goal

abbrev pub invariant-loop-row : goal.invariant-loop-row
invariant-loop-row l = IsMadeTo (freed_row l.column l.other) (does_freed_row_fit l.column l.other) (λ row. length row.numbers ≡ length l.other) l.fn.rows l.rows l.row-index
