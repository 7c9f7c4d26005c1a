use Rattle.std.proofs.Common.{◌∙◌, ◌++◌, ℕ, List, [], ◌∷◌, ap, ap₂, sym, subst, ◌≤◌}
use Rattle.std.proofs.lemmas.List.{map_more}
use Rattle.pc_model.specs.declared.constraint.Constraint.{Constraint}
use Rattle.pc_model.specs.Accepted.{frequency_limit}
use Rattle.pc_model.specs.Possible.{count_of}
use Rattle.pc_model.specs.Runs.{rows_of}
use Rattle.pc_desk_parts.proofs.lost.counts_of.Goals as goal

pub count_of-requires : goal.count_of-requires
count_of-requires c =
    let at = c.loop-constraint in
    let few = c.requires at.constraint-index c.constraint-item.result c.loop-constraint-test.true in
    subst (λ (constraint : Constraint). count_of c.args.constraints.now constraint (rows_of c.args.runs.now) ≤ frequency_limit) (sym c.constraint-item.is) few

pub loop-constraint-preserved : goal.loop-constraint-preserved
loop-constraint-preserved c =
    let at = c.loop-constraint in
    let constraints = c.args.constraints.now in
    let counted = λ (constraint : Constraint). count_of constraints constraint (rows_of c.args.runs.now) in
    c.in_ok-push.ensures.items
    ∙ ap₂ (λ (counts : List ℕ) (count : ℕ). counts ++ count ∷ []) at.invariant (c.count_of.ensures ∙ ap counted c.constraint-item.is)
    ∙ sym (map_more counted constraints at.constraint-index c.constraint-item.result c.loop-constraint-test.true)
