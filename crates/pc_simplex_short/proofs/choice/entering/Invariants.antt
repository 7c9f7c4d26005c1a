use Rattle.std.proofs.Common.{◌≡◌, None}
use Rattle.pc_simplex_tableau.specs.Numbers.{first_below}
use Rattle.pc_simplex_tableau.proofs.Deciding.{may_enter}
use Rattle.pc_simplex_short.specs.Short.{spelled}
use Rattle.pc_simplex_short.proofs.choice.entering.Given as goal

abbrev pub invariant-loop-column : goal.invariant-loop-column
invariant-loop-column l = first_below l.column (may_enter (spelled l.setting l.tableau)) ≡ None
