use Rattle.std.proofs.Common.{◌≡◌, take}
use Rattle.std.specs.Prelude.{flat_map}
use Rattle.pc_desk_sql.specs.Texts.{with_before}
use Rattle.pc_desk_sql.proofs.texts.with_each.Given as goal

abbrev pub invariant-loop-text : goal.invariant-loop-text
invariant-loop-text l = l.out.items ≡ flat_map (with_before l.between) (take l.text-index l.texts)
