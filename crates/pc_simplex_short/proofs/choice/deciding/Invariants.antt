use Rattle.pc_simplex_tableau.proofs.Deciding.{IsLeastTo}
use Rattle.pc_simplex_short.specs.Short.{spelled}
use Rattle.pc_simplex_short.proofs.choice.deciding.Given as goal

abbrev pub invariant-loop-at : goal.invariant-loop-at
invariant-loop-at l = IsLeastTo l.setting.columns l.column (spelled l.setting l.tableau) l.best l.at
