use Rattle.std.proofs.Common.{◌≡◌}
use Rattle.pc_simplex_tableau.specs.Numbers.{table}
use Rattle.pc_simplex_short.specs.Short.{entry}
use Rattle.pc_simplex_short.proofs.spell.spell_numbers.Given as goal

abbrev pub invariant-loop-column : goal.invariant-loop-column
invariant-loop-column l = l.spelled.items ≡ table l.column (entry l.setting l.turned l.numbers)
