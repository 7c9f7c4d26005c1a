use Rattle.std.proofs.Common.{◌≡◌, ◌++◌, List, [], ◌∷◌, ap, ap₂, rules, sym, ◌∙◌}
use Rattle.std.proofs.lemmas.List.{map_more}
use Rattle.pc_model.specs.declared.constraint.Constraint.{Constraint}
use Rattle.pc_desk_try.specs.declared.tried.Tried.{Tried}
use Rattle.pc_desk_try.specs.Trials.{tried_by}
use Rattle.pc_desk_try.proofs.tried.tried_each.Goals as goal

pub loop-constraint-preserved : goal.loop-constraint-preserved
loop-constraint-preserved c =
    let at = c.loop-constraint in
    let made : Constraint → Tried = tried_by c.args.scale c.args.constraints.now c.args.rows.now in
    let tried = c.in_ok-tried.ensures ∙ ap made c.constraint-item.is in
    let pushed : c.push.new.self ≡ at.each ++ c.in_ok-tried.tried ∷ [] = search rules in
    pushed ∙ ap₂ (λ (each : List Tried) (next : Tried). each ++ next ∷ []) at.invariant tried
    ∙ sym (map_more made c.args.constraints.now at.constraint-index _ c.loop-constraint-test.true)
