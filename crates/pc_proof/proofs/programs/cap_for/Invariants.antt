use Rattle.std.proofs.Common.{◌≡◌, map, drop}
use Rattle.pc_program_bound.specs.CellPrograms.{members}
use Rattle.pc_proof.specs.Masks.{cap_for}
use Rattle.pc_proof.proofs.Caps.{least_after, most_of}
use Rattle.pc_proof.proofs.programs.cap_for.Given as goal

abbrev pub invariant-loop-constraint : goal.invariant-loop-constraint
invariant-loop-constraint l = least_after l.cap (map most_of (members l.left (drop l.constraint-index l.constraints))) ≡ cap_for l.fn.constraints l.fn.mask
