use Rattle.std.proofs.Common.{◌≡◌, map, take}
use Rattle.pc_desk_wants.specs.Shown.{plain}
use Rattle.pc_desk_wants.proofs.showing.plain_text.Given as goal

abbrev pub invariant-loop-byte : goal.invariant-loop-byte
invariant-loop-byte l = l.out.items ≡ map plain (take l.byte-index l.text)
