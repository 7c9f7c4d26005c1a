use Rattle.std.proofs.Common.{take}
use Rattle.std.specs.List.{AllZip}
use Rattle.pc_model.specs.declared.schema.Schema.{Schema}
use Rattle.pc_conflict.specs.Core.{IsFreeWithout}
use Rattle.pc_conflict.specs.Deleting.{IsFoundAt}
use Rattle.pc_conflict.proofs.thinning.without_each.Given as goal

abbrev pub invariant-loop-index : goal.invariant-loop-index
invariant-loop-index l =
    (schema : Schema) → AllZip (IsFoundAt schema l.constraints l.members) l.members l.found →
    AllZip (IsFreeWithout schema l.constraints l.members) (take l.index l.members) l.without
