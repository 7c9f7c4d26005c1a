use Rattle.pc_cells_tree.specs.Linked.{IsTree}
use Rattle.pc_cells_trials.proofs.cells.shared.refine_in_turn.Given as goal

abbrev pub invariant-loop-end : goal.invariant-loop-end
invariant-loop-end l = IsTree l.schema l.shared.nodes
