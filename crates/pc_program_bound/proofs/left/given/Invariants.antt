use Rattle.std.proofs.Common.{◌≡◌}
use Rattle.pc_program_bound.specs.Sums.{sum_below}
use Rattle.pc_program_bound.specs.Bound.{AreFit}
use Rattle.pc_program_bound.specs.Parts.{taken}
use Rattle.pc_program_bound.proofs.left.given.Given as goal

-- the sum so far
abbrev pub invariant-loop-place : goal.invariant-loop-place
invariant-loop-place l = record {
  summed : l.given ≡ sum_below l.place (taken l.mask l.by);
  fits : AreFit (λ k. sum_below k (taken l.mask l.by)) l.place;
}
