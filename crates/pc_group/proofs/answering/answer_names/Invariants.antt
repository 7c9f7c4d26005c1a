use Rattle.std.proofs.Common.{List, map, take}
use Rattle.pc_model.specs.declared.row.Row.{Row}
use Rattle.pc_group.specs.Scopes.{AddsBlocks, AreFolds}
use Rattle.pc_group.specs.Wanted.{wanted_of}
use Rattle.pc_group.proofs.answering.answer_names.Given as goal

abbrev pub invariant-loop-index : goal.invariant-loop-index
invariant-loop-index l =
    (observed : List Row) → AreFolds (map (wanted_of l.query) l.names) observed l.folds → AddsBlocks l.scope observed l.fn.written (map (wanted_of l.query) (take l.index l.names)) l.more
