use Rattle.std.proofs.Common.{◌≡◌, ◌≤◌, ◌+◌, drop, min}
use Rattle.pc_num.specs.Scaled.{greatest_size, number_after, padded, scaled_size}
use Rattle.pc_num.proofs.scaled.scaled_size.Given as goal

-- what is left decides
abbrev pub invariant-loop-place : goal.invariant-loop-place
invariant-loop-place l =
    (l.size ≤ greatest_size + 1)
    × (min (scaled_size l.whole l.decimals l.scale) (greatest_size + 1)
    ≡ min (number_after l.size (drop l.place (padded l.scale l.decimals))) (greatest_size + 1))
