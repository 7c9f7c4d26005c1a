use Rattle.pc_simplex_short.specs.Short.{turned_short}
use Rattle.pc_simplex_short.specs.Kept.{IsShortRow}
use Rattle.pc_simplex_short.proofs.Made.{IsMadeTo}
use Rattle.pc_simplex_short.proofs.rows.turn_all.Given as goal

abbrev pub invariant-loop-row : goal.invariant-loop-row
invariant-loop-row l = IsMadeTo (turned_short l.setting l.turned l.column l.range) (IsShortRow l.setting) l.fn.rows l.rows l.row-index
