use Rattle.std.proofs.Common.{◌≡◌, ◌∷◌, take}
use Rattle.std.specs.Prelude.{codes}
use Rattle.pc_desk_schema.proofs.written.cat_fields.Given as goal

abbrev pub invariant-loop-name : goal.invariant-loop-name
invariant-loop-name l = l.fields ≡ codes "cat" ∷ take l.name-index l.names
