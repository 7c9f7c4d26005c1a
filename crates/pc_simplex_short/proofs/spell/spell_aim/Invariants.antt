use Rattle.std.proofs.Common.{◌≡◌}
use Rattle.pc_simplex_tableau.specs.Numbers.{table}
use Rattle.pc_simplex_short.specs.Short.{aim_entry}
use Rattle.pc_simplex_short.proofs.spell.spell_aim.Given as goal

abbrev pub invariant-loop-column : goal.invariant-loop-column
invariant-loop-column l = l.spelled.items ≡ table l.column (aim_entry l.setting l.turned l.weight l.aim)
