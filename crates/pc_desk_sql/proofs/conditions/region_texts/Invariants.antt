use Rattle.std.proofs.Common.{◌≡◌, map, take}
use Rattle.pc_desk_sql.specs.Spelled.{region_text}
use Rattle.pc_desk_sql.proofs.conditions.region_texts.Given as goal

abbrev pub invariant-loop-region : goal.invariant-loop-region
invariant-loop-region l = l.texts ≡ map (region_text l.columns) (take l.region-index l.boxes)
