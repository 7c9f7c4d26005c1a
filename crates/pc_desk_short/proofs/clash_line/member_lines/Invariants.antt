use Rattle.std.proofs.Common.{◌≡◌, ◌++◌, drop}
use Rattle.pc_desk_short.specs.ClashTexts.{member_lines}
use Rattle.pc_desk_short.proofs.clash_line.member_lines.Given as goal

abbrev pub invariant-loop-index : goal.invariant-loop-index
invariant-loop-index l =
    l.lines ++ member_lines l.schema l.constraints (drop l.index l.members) (drop l.index l.without) ≡ member_lines l.schema l.constraints l.members l.without
