use Rattle.std.proofs.Common.{rules, ◌≡◌, ◌∷◌, ◌++◌, [], List, get_or, sym, ap, ◌∙◌}
use Rattle.std.proofs.lemmas.List.{take_more}
use Rattle.pc_model.specs.declared.constraint.Constraint.{Constraint}
use Rattle.pc_session.proofs.copies.copies_of.Goals as goal

pub loop-constraint-preserved : goal.loop-constraint-preserved
loop-constraint-preserved c =
    let constraints = c.args.constraints.now in
    let place = c.loop-constraint.constraint-index in
    let constraint = c.constraint-item.result in
    let same : c.in_ok-copy.copy ≡ constraint = search rules in
    let pushed : c.push.new.self ≡ c.loop-constraint.copies ++ c.in_ok-copy.copy ∷ [] = search rules in
    pushed ∙ ap (λ (copy : Constraint). c.loop-constraint.copies ++ copy ∷ []) (same ∙ c.constraint-item.is)
    ∙ ap (λ (copies : List Constraint). copies ++ get_or constraints place constraint ∷ []) c.loop-constraint.invariant ∙ sym (take_more constraints place constraint c.loop-constraint-test.true)
