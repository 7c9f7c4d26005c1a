use Rattle.std.proofs.Common.{map, take}
use Rattle.pc_cells_tree.specs.Linked.{IsTree}
use Rattle.pc_group.specs.Wanted.{wanted_by}
use Rattle.pc_desk_answers.specs.Blocks.{AreShownUnder, block, ground_in}
use Rattle.pc_desk_answers.proofs.changes.query_under_each.Given as goal

abbrev pub invariant-loop-list : goal.invariant-loop-list
invariant-loop-list g l = record {
  tree : IsTree l.fn.scope.schema.now l.shared.nodes;
  shown : AreShownUnder (ground_in l.fn.scope) (map block (wanted_by l.fn.scope.schema.now l.fn.query)) (take l.list-index l.fn.lists) l.all.items;
}
