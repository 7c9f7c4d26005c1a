use Rattle.std.proofs.Common.{◌≡◌}
use Rattle.pc_program_bound.specs.Sums.{sum_below}
use Rattle.pc_program_bound.specs.Bound.{constraint_share, constraint_sizes}
use Rattle.pc_program_bound.specs.Parts.{IsAround, AreFitConstraints}
use Rattle.pc_program_bound.proofs.bound.over_constraints.Given as goal

-- the sums so far
abbrev pub invariant-loop-place : goal.invariant-loop-place
invariant-loop-place l = record {
  shares : l.running.share ≡ sum_below l.place (constraint_share l.p l.mult);
  sizes : l.running.size ≡ constraint_sizes l.p l.mult l.place;
  around : IsAround l.running.share l.running.size;
  fits : AreFitConstraints l.p l.mult l.place;
}
