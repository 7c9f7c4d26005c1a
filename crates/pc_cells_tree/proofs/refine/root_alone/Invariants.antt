use Rattle.std.proofs.Common.{◌≡◌, ◌≤◌, length}
use Rattle.pc_model.specs.Regions.{whole_region}
use Rattle.pc_cells_tree.specs.Linked.{box_at}
use Rattle.pc_cells_tree.proofs.refine.root_alone.Given as goal

abbrev pub invariant-loop : goal.invariant-loop
invariant-loop l = (length l.boxes ≡ l.counter) × (1 ≤ l.counter) × (box_at l.boxes 0 ≡ whole_region l.schema)
