use Rattle.std.proofs.Common.{◌≡◌, [], ◌∷◌, ◌++◌, take}
use Rattle.std.specs.Prelude.{flat_map}
use Rattle.pc_desk_sql.specs.Spelled.{none_texts}
use Rattle.pc_desk_sql.proofs.conditions.none_texts.Given as goal

abbrev pub invariant-loop-constraint : goal.invariant-loop-constraint
invariant-loop-constraint l = l.texts ≡ (l.fn.first ∷ []) ++ flat_map (none_texts l.columns) (take l.constraint-index l.constraints)
