use Rattle.pc_program_bound.proofs.ShortWidths.{IsSummed}
use Rattle.pc_program_bound.proofs.short.shares.Given as goal

-- the shares so far
abbrev pub invariant-loop-cell : goal.invariant-loop-cell
invariant-loop-cell l = IsSummed l.p l.floor l.cap l.mult l.cell l.share
