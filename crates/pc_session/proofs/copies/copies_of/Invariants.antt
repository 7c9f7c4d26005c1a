use Rattle.std.proofs.Common.{◌≡◌, take}
use Rattle.pc_session.proofs.copies.copies_of.Given as goal

abbrev pub invariant-loop-constraint : goal.invariant-loop-constraint
invariant-loop-constraint l = l.copies ≡ take l.constraint-index l.constraints
