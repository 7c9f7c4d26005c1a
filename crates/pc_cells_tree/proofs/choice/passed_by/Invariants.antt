use Rattle.std.proofs.Common.{◌≡◌, ◌≤◌}
use Rattle.pc_cells_tree.specs.Choices.{is_passed, count_below}
use Rattle.pc_cells_tree.proofs.choice.passed_by.Given as goal

abbrev pub invariant-loop-place : goal.invariant-loop-place
invariant-loop-place l = record {
  few : l.passed ≤ l.most;
  count : l.passed ≡ count_below (is_passed l.part l.constraints l.known l.cut) l.place;
}
