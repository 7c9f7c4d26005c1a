use Rattle.std.proofs.Common.{◌≡◌, take}
use Rattle.pc_desk_parts.specs.Made.{count_at}
use Rattle.pc_desk_parts.proofs.observed.count_at.Given as goal

abbrev pub invariant-loop-number : goal.invariant-loop-number
invariant-loop-number l = l.count ≡ count_at l.value l.stand (take l.number-index l.numbers)
