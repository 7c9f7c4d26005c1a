use Rattle.std.proofs.Common.{◌<◌, ℕ, List, All, length, sym, ap, ap₂, subst, ◌∙◌}
use Rattle.std.proofs.lemmas.Result.{IfOk-weaker}
use Rattle.pc_model.specs.declared.constraint.Constraint.{Constraint}
use Rattle.pc_conflict.specs.Besides.{spoken_runs}
use Rattle.pc_conflict.specs.Deletion.{at_places}
use Rattle.pc_conflict.proofs.Tested.{others_there, tested_there}
use Rattle.pc_conflict.proofs.thinning.without_member.Goals as goal

pub constraints_at-requires : goal.constraints_at-requires
constraints_at-requires c =
    let constraints = c.args.constraints.now in
    subst (All (λ (place : ℕ). place < length constraints)) (sym (c.as_slice.ensures ∙ c.in_ok-tested.ensures)) (tested_there constraints c.args.members.now c.args.member c.requires.inside)

pub constraints_at-requires-2 : goal.constraints_at-requires-2
constraints_at-requires-2 c =
    let constraints = c.args.constraints.now in
    subst (All (λ (place : ℕ). place < length constraints)) (sym (c.as_slice-2.ensures ∙ c.in_ok-others.ensures)) (others_there constraints c.args.members.now c.args.member c.requires.inside)

pub returns : goal.returns
returns c =
    let whole = c.as_slice-3.ensures ∙ c.in_ok-whole.ensures ∙ ap (at_places c.args.constraints.now) (c.as_slice.ensures ∙ c.in_ok-tested.ensures) in
    let rest = c.as_slice-4.ensures ∙ c.in_ok-rest.ensures ∙ ap (at_places c.args.constraints.now) (c.as_slice-2.ensures ∙ c.in_ok-others.ensures) in
    IfOk-weaker c.spoken_runs.result _ _
    (λ kept is. is ∙ ap₂ (λ (a b : List Constraint). spoken_runs a b c.args.runs.now) whole rest)
    c.spoken_runs.ensures
