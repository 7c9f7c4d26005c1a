use Rattle.std.proofs.Common.{◌≡◌, map, take}
use Rattle.pc_desk_sql.specs.Texts.{string_text}
use Rattle.pc_desk_sql.proofs.claims.strings_of.Given as goal

abbrev pub invariant-loop-name : goal.invariant-loop-name
invariant-loop-name l = l.texts ≡ map string_text (take l.name-index l.names)
