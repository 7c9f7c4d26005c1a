use Rattle.std.proofs.Common.{◌≡◌, ◌≤◌, ◌*◌, ◌^◌, nat_abs, pos, ◌*ℤ◌}
use Rattle.pc_program_bound.specs.Sums.{sum_below, nat_at, int_at}
use Rattle.pc_nested.proofs.counting.worth_of.Given as goal

abbrev pub invariant-loop-cell : goal.invariant-loop-cell
invariant-loop-cell l =
    (l.worth ≡ sum_below l.cell (λ i. int_at l.p.gain i *ℤ pos (nat_at l.counts i))) × (nat_abs l.worth ≤ l.cell * 2 ^ 117)
