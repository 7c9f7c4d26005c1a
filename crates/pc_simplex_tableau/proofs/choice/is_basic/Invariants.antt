use Rattle.std.proofs.Common.{◌≡◌, ◌==◌, not, drop}
use Rattle.std.specs.List.{list_all}
use Rattle.pc_simplex_tableau.specs.Tableau.{TableauRow}
use Rattle.pc_simplex_tableau.proofs.choice.is_basic.Given as goal

abbrev pub invariant-loop-row : goal.invariant-loop-row
invariant-loop-row l =
    list_all (λ (row : TableauRow). not (row.basic == l.column)) l.tableau.rows ≡ list_all (λ (row : TableauRow). not (row.basic == l.column)) (drop l.row-index l.tableau.rows)
