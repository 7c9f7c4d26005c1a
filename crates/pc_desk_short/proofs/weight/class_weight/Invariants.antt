use Rattle.std.proofs.Common.{◌≡◌}
use Rattle.pc_program_bound.specs.Parts.{taken}
use Rattle.pc_program_bound.specs.Sums.{sum_below}
use Rattle.pc_desk_short.proofs.weight.class_weight.Given as goal

-- the sum so far
abbrev pub invariant-loop-place : goal.invariant-loop-place
invariant-loop-place l = l.total ≡ sum_below l.place (taken l.mask l.weights)
