use Rattle.std.proofs.Common.{All, take}
use Rattle.pc_model.specs.declared.constraint.Constraint.{Constraint}
use Rattle.pc_model.specs.Cells.{IsRuledOut}
use Rattle.pc_check_rules.proofs.settled.is_ruled_out_by_any.Given as goal

abbrev pub invariant-loop-constraint : goal.invariant-loop-constraint
invariant-loop-constraint l = All (λ (c : Constraint). IsRuledOut l.constraints l.part c → ⊥) (take l.constraint-index l.constraints)
