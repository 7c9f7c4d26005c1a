use Rattle.std.proofs.Common.{◌≡◌, take}
use Rattle.std.specs.Prelude.{flat_map}
use Rattle.pc_desk_schema.specs.Texts.{remark_line}
use Rattle.pc_desk_schema.proofs.lines.all_lines.Given as goal

abbrev pub invariant-loop-remark : goal.invariant-loop-remark
invariant-loop-remark l = l.text.items ≡ flat_map remark_line (take l.remark-index l.remarks)
