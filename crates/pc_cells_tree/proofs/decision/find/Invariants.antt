use Rattle.pc_cells_tree.specs.Decisions.{IsFound}
use Rattle.pc_cells_tree.specs.Knowing.{IsKnown}
use Rattle.pc_cells_tree.proofs.decision.find.Given as goal

abbrev pub invariant-loop-place : goal.invariant-loop-place
invariant-loop-place l = IsFound l.part l.constraints l.place l.learned.finding × IsKnown l.constraints l.part l.learned.known
