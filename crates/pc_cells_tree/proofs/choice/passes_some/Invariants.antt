use Rattle.std.proofs.Common.{◌≡◌, false, take}
use Rattle.std.specs.List.{list_any}
use Rattle.pc_cells_tree.specs.Choices.{is_passed_box}
use Rattle.pc_cells_tree.proofs.choice.passes_some.Given as goal

abbrev pub invariant-loop-region : goal.invariant-loop-region
invariant-loop-region l = list_any (is_passed_box l.part l.cut) (take l.region-index l.boxes) ≡ false
