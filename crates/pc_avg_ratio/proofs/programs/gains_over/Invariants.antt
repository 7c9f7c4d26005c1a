use Rattle.std.proofs.Common.{◌≡◌}
use Rattle.pc_proof.specs.Table.{ratio_of}
use Rattle.pc_simplex_tableau.specs.Numbers.{table}
use Rattle.pc_avg_ratio.specs.Fractional.{gain_over}
use Rattle.pc_avg_ratio.proofs.programs.gains_over.Given as goal

abbrev pub invariant-loop-cell : goal.invariant-loop-cell
invariant-loop-cell l = l.gains ≡ table l.cell (gain_over l.fn.f (ratio_of l.fn.ratio))
