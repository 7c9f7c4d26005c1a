use Rattle.std.proofs.Common.{◌≡◌, ◌≤◌, ◌+◌, drop, min}
use Rattle.pc_num.specs.Scaled.{greatest_size, number_after}
use Rattle.pc_num.proofs.scaled.number_of.Given as goal

-- what is left decides
abbrev pub invariant-loop-digit : goal.invariant-loop-digit
invariant-loop-digit l =
    (l.number ≤ greatest_size + 1)
    × (min (number_after 0 l.digits) (greatest_size + 1)
    ≡ min (number_after l.number (drop l.digit-index l.digits)) (greatest_size + 1))
