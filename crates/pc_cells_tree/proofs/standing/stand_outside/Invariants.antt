use Rattle.pc_cells_tree.specs.Standings.{IsOutsideFrom}
use Rattle.pc_cells_tree.proofs.standing.stand_outside.Given as goal

abbrev pub invariant-loop-place : goal.invariant-loop-place
invariant-loop-place l = IsOutsideFrom l.constraints l.part l.place l.standing
