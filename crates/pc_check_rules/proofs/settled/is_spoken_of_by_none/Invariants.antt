use Rattle.std.proofs.Common.{All, take}
use Rattle.pc_model.specs.Cells.{SpeaksOfNone}
use Rattle.pc_check_rules.proofs.settled.is_spoken_of_by_none.Given as goal

abbrev pub invariant-loop-constraint : goal.invariant-loop-constraint
invariant-loop-constraint l = All (SpeaksOfNone l.constraints l.part) (take l.constraint-index l.constraints)
