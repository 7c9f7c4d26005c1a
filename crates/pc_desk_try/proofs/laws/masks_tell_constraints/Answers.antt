use Rattle.pc_model.specs.declared.constraint.Constraint.{Constraint}
use Rattle.pc_model.specs.Membership.{is_under}
use Rattle.pc_cells_laws.proofs.Masks.{bits_by-bit}
use Rattle.pc_desk_try.proofs.laws.masks_tell_constraints.Goals as goal

pub returns : goal.returns
returns c = λ constraints row place d here. bits_by-bit (λ (other : Constraint). is_under constraints other row) constraints place d here
