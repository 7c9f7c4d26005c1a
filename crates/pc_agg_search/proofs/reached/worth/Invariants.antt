use Rattle.std.proofs.Common.{◌≡◌, pos}
use Rattle.std.specs.Prelude.{◌*ℤ◌}
use Rattle.pc_program_bound.specs.Sums.{sum_below, nat_at, int_at}
use Rattle.pc_agg_search.proofs.reached.worth.Given as goal

abbrev pub invariant-loop-cell : goal.invariant-loop-cell
invariant-loop-cell l = l.total ≡ sum_below l.cell (λ i. int_at l.fn.p.gain i *ℤ pos (nat_at l.fn.counts i))
