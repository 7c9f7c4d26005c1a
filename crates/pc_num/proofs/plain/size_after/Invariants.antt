use Rattle.std.proofs.Common.{◌≡◌, ◌≤◌, ◌+◌, drop, length}
use Rattle.pc_num.specs.Scaled.{digits_len, greatest_size, number_after}
use Rattle.pc_num.proofs.plain.size_after.Given as goal

-- what is left decides
abbrev pub invariant-loop-digit : goal.invariant-loop-digit
invariant-loop-digit l =
    (l.size ≤ greatest_size)
    × (l.digit-index ≤ length l.digits)
    × (digits_len l.digits ≡ l.digit-index + digits_len (drop l.digit-index l.digits))
    × (number_after l.before l.digits ≡ number_after l.size (drop l.digit-index l.digits))
