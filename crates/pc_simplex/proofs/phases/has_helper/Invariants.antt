use Rattle.std.proofs.Common.{◌≡◌, not, drop}
use Rattle.std.specs.List.{list_all}
use Rattle.pc_simplex_tableau.specs.Tableau.{TableauRow}
use Rattle.pc_simplex.specs.Phases.{is_left}
use Rattle.pc_simplex.proofs.phases.has_helper.Given as goal

abbrev pub invariant-loop-row : goal.invariant-loop-row
invariant-loop-row l =
    list_all (λ (row : TableauRow). not (is_left l.columns row)) l.tableau.rows ≡ list_all (λ (row : TableauRow). not (is_left l.columns row)) (drop l.row-index l.tableau.rows)
