use Rattle.pc_program.specs.Gathered.{AreGathered}
use Rattle.pc_program.proofs.members.gather.Given as goal

abbrev pub invariant-loop-cell : goal.invariant-loop-cell
invariant-loop-cell l = AreGathered l.p l.found.items l.cell
