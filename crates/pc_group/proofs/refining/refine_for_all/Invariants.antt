use Rattle.std.proofs.Common.{All, take}
use Rattle.pc_model.specs.declared.area.Area.{Area}
use Rattle.pc_cells_tree.specs.Linked.{IsTree, IsDividedFor, KeepsInner}
use Rattle.pc_cells_tree.specs.Owned.{HasOwnCuts}
use Rattle.pc_group.specs.Trees.{HasCutsForSome}
use Rattle.pc_group.proofs.refining.refine_for_all.Given as goal

-- divided for the areas before the present one
abbrev pub invariant-loop-area : goal.invariant-loop-area
invariant-loop-area l = record {
  tree : IsTree l.schema l.shared.nodes;
  kept : KeepsInner l.fn.shared.nodes l.shared.nodes;
  own : HasOwnCuts l.schema l.fn.shared.nodes → HasOwnCuts l.schema l.shared.nodes;
  needed : HasCutsForSome l.schema l.constraints l.areas l.fn.shared.nodes l.shared.nodes;
  divided : All (λ (area : Area). IsDividedFor l.schema l.constraints area l.shared.nodes) (take l.area-index l.areas);
}
