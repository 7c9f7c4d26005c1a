use Rattle.std.proofs.Common.{◌≡◌, map, take}
use Rattle.pc_desk_sql.specs.Spelled.{known_text}
use Rattle.pc_desk_sql.proofs.conditions.known_texts.Given as goal

abbrev pub invariant-loop-column : goal.invariant-loop-column
invariant-loop-column l = l.texts ≡ map known_text (take l.column-index l.columns)
