use Rattle.std.proofs.Common.{◌≡◌, not, drop}
use Rattle.std.specs.List.{list_all}
use Rattle.pc_simplex.specs.Shorts.{is_left_short}
use Rattle.pc_simplex.proofs.short_phases.is_any_left.Given as goal

abbrev pub invariant-loop-row : goal.invariant-loop-row
invariant-loop-row l = list_all (λ row. not (is_left_short l.setting row)) l.tableau.rows ≡ list_all (λ row. not (is_left_short l.setting row)) (drop l.row-index l.tableau.rows)
