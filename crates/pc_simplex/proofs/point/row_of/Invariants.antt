use Rattle.std.proofs.Common.{◌≡◌, ◌==◌, None}
use Rattle.pc_simplex_tableau.specs.Numbers.{first_below}
use Rattle.pc_simplex_tableau.specs.Tableau.{row_at}
use Rattle.pc_simplex.proofs.point.row_of.Given as goal

abbrev pub invariant-loop-at : goal.invariant-loop-at
invariant-loop-at l = first_below l.at (λ r. (row_at l.tableau r).basic == l.column) ≡ None
