use Rattle.std.proofs.Common.{◌≡◌, map, take}
use Rattle.pc_model.proofs.Whole.{side_of_column}
use Rattle.pc_model.proofs.schema.Schema.whole.Given as goal

abbrev pub invariant-loop-column : goal.invariant-loop-column
invariant-loop-column l = l.sides ≡ map side_of_column (take l.column-index l.self.columns)
