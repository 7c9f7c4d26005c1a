use Rattle.std.proofs.Common.{rules, ◌≡◌, ◌∷◌, ◌++◌, [], List, ap, ◌∙◌}
use Rattle.pc_model.specs.declared.constraint.Constraint.{Constraint}
use Rattle.pc_conflict.proofs.AtPlaces.{one_copied}
use Rattle.pc_conflict.proofs.copies.constraints_at.Goals as goal

pub loop-place-preserved : goal.loop-place-preserved
loop-place-preserved c =
    let constraint = c.index-constraints-place.result in
    let same : c.in_ok-copy.copy ≡ constraint = search rules in
    let pushed : c.push.new.self ≡ c.loop-place.copies ++ c.in_ok-copy.copy ∷ [] = search rules in
    pushed ∙ ap (λ (copy : Constraint). c.loop-place.copies ++ copy ∷ []) same ∙ ap (λ (cs : List Constraint). cs ++ constraint ∷ []) c.loop-place.invariant
    ∙ one_copied c.args.constraints.now c.args.places.now c.loop-place.place-index constraint c.loop-place-test.true (c.requires c.loop-place.place-index 0 c.loop-place-test.true) c.index-constraints-place.is
