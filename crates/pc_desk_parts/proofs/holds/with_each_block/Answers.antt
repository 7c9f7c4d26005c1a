use Rattle.std.proofs.Common.{◌∙◌, ◌++◌, ap}
use Rattle.pc_model.specs.declared.constraint.Constraint.{Constraint}
use Rattle.pc_desk_parts.specs.Steps.{step_block}
use Rattle.pc_desk_parts.proofs.Each.{each_after}
use Rattle.pc_desk_parts.proofs.holds.with_each_block.Goals as goal

pub loop-place-preserved : goal.loop-place-preserved
loop-place-preserved c =
    let at = c.loop-place in
    let given = step_block c.args.step.now in
    each_after given c.args.step.now.constraints.now at.place c.index-constraints-place.result c.loop-place-test.true c.args.held at.held c.in_ok-held.held at.invariant
    (c.in_ok-held.ensures ∙ ap (λ (constraint : Constraint). at.held ++ given at.place constraint) c.index-constraints-place.is)
