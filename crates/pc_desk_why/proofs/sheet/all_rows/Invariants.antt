use Rattle.std.proofs.Common.{◌≡◌, take}
use Rattle.std.specs.List.{flat_map}
use Rattle.pc_desk_why.specs.Shown.{told_rows}
use Rattle.pc_desk_why.proofs.sheet.all_rows.Given as goal

abbrev pub invariant-loop-told : goal.invariant-loop-told
invariant-loop-told l = l.rows.items ≡ flat_map (told_rows l.constraints l.clash_lines) (take l.told-index l.all)
