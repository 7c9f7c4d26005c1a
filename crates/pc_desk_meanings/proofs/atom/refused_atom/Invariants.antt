use Rattle.std.specs.Prelude.{IfSome}
use Rattle.pc_desk_meanings.specs.Atoms.{IsClauseIn}
use Rattle.pc_desk_meanings.proofs.atom.refused_atom.Given as goal

abbrev pub invariant-loop-place : goal.invariant-loop-place
invariant-loop-place l = IfSome l.clause (IsClauseIn l.place)
