use Rattle.pc_simplex_tableau.proofs.Deciding.{IsLeastTo}
use Rattle.pc_simplex_tableau.proofs.choice.deciding.Given as goal

abbrev pub invariant-loop-at : goal.invariant-loop-at
invariant-loop-at l = IsLeastTo l.columns l.column l.tableau l.best l.at
