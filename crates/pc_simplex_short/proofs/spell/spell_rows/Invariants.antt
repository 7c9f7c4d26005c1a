use Rattle.std.proofs.Common.{◌≡◌, ◌++◌, map, drop}
use Rattle.pc_simplex_short.specs.Short.{spelled_row}
use Rattle.pc_simplex_short.proofs.spell.spell_rows.Given as goal

abbrev pub invariant-loop-row : goal.invariant-loop-row
invariant-loop-row l = l.spelled.items ++ map (spelled_row l.setting l.turned) (drop l.row-index l.rows) ≡ map (spelled_row l.setting l.turned) l.rows
