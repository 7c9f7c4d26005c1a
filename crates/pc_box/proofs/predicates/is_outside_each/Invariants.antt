use Rattle.std.proofs.Common.{All, take}
use Rattle.pc_model.specs.declared.constraint.Constraint.{Constraint}
use Rattle.pc_model.specs.Cells.{IsApartFromNamed}
use Rattle.pc_box.proofs.predicates.is_outside_each.Given as goal

abbrev pub invariant-loop-constraint : goal.invariant-loop-constraint
invariant-loop-constraint l = All (λ (c : Constraint). IsApartFromNamed l.part c.when) (take l.constraint-index l.constraints)
