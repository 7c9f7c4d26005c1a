use Rattle.std.proofs.Common.{◌<◌, ℕ, List, All, length, inr, sym, ap, subst, ◌∙◌}
use Rattle.pc_model.specs.declared.constraint.Constraint.{Constraint}
use Rattle.pc_model.specs.Accepted.{AreConstraints}
use Rattle.pc_conflict.specs.Conflicts.{IsLeftOpen}
use Rattle.pc_conflict.specs.Deleting.{IsDeletion, tested_at}
use Rattle.pc_conflict.specs.Deletion.{at_places}
use Rattle.pc_conflict.specs.Testing.{IsTested, IsTestedSurely}
use Rattle.pc_conflict.proofs.Parts.{accepted_still, easy_still}
use Rattle.pc_conflict.proofs.Steps.{kept_too, left_out, next_places, tested_is}
use Rattle.pc_conflict.proofs.deletion.step.Goals as goal

pub constraints_at-requires : goal.constraints_at-requires
constraints_at-requires c =
    let constraints = c.args.constraints.now in
    let tested = c.as_slice-2.ensures ∙ c.in_ok-tested.ensures ∙ ap (λ (ms : List ℕ). tested_at constraints ms c.args.place) c.as_slice.ensures in
    subst (All (λ (place : ℕ). place < length constraints)) (sym tested) (next_places c.args.schema.now constraints c.args.place c.args.deletion c.requires.deletion).inside

pub test-requires-clause-accepted : goal.test-requires-clause-accepted
test-requires-clause-accepted c =
    let constraints = c.args.constraints.now in
    let tested = c.as_slice-2.ensures ∙ c.in_ok-tested.ensures ∙ ap (λ (ms : List ℕ). tested_at constraints ms c.args.place) c.as_slice.ensures in
    let part = c.as_slice-3.ensures ∙ c.in_ok-part.ensures ∙ ap (at_places constraints) tested in
    subst (AreConstraints c.args.schema.now) (sym part)
    (accepted_still c.args.schema.now constraints (tested_at constraints c.args.deletion.members c.args.place) (next_places c.args.schema.now constraints c.args.place c.args.deletion c.requires.deletion) c.requires.accepted)

pub returns-in_ok-kept-in-Possible-clause-stepped : goal.returns-in_ok-kept-in-Possible-clause-stepped
returns-in_ok-kept-in-Possible-clause-stepped c =
    let constraints = c.args.constraints.now in
    let tested = c.as_slice-2.ensures ∙ c.in_ok-tested.ensures ∙ ap (λ (ms : List ℕ). tested_at constraints ms c.args.place) c.as_slice.ensures in
    let part = c.as_slice-3.ensures ∙ c.in_ok-part.ensures ∙ ap (at_places constraints) tested in
    let stands =
    subst (λ (cs : List Constraint). IsTested c.args.schema.now cs c.args.nodes (c.in_ok-runs.field-0)) part c.in_ok-runs.ensures.tested in
    subst (IsDeletion c.args.schema.now constraints _) (sym c.in_ok-kept-in-Possible.ensures)
    (kept_too c.args.schema.now constraints c.args.place c.args.deletion c.requires.there c.requires.deletion c.in-Possible.runs
    (subst (IsTested c.args.schema.now (at_places constraints (tested_at constraints c.args.deletion.members c.args.place)) c.args.nodes) c.in-Possible.is stands))

pub returns-in-Impossible-clause-stepped : goal.returns-in-Impossible-clause-stepped
returns-in-Impossible-clause-stepped c =
    let constraints = c.args.constraints.now in
    let tested = c.as_slice-2.ensures ∙ c.in_ok-tested.ensures ∙ ap (λ (ms : List ℕ). tested_at constraints ms c.args.place) c.as_slice.ensures in
    let part = c.as_slice-3.ensures ∙ c.in_ok-part.ensures ∙ ap (at_places constraints) tested in
    let contrary =
    subst (λ (cs : List Constraint). IsTested c.args.schema.now cs c.args.nodes (c.in_ok-runs.field-0)) part c.in_ok-runs.ensures.tested in
    left_out c.args.schema.now constraints c.args.place c.args.deletion c.requires.there c.requires.deletion
    (subst (IsTested c.args.schema.now (at_places constraints (tested_at constraints c.args.deletion.members c.args.place)) c.args.nodes) c.in-Impossible.is contrary)

pub returns-in-Undecided-clause-stepped : goal.returns-in-Undecided-clause-stepped
returns-in-Undecided-clause-stepped c =
    let constraints = c.args.constraints.now in
    let tested = c.in_ok-tested.ensures ∙ ap (λ (ms : List ℕ). tested_at constraints ms c.args.place) c.as_slice.ensures in
    let part = c.as_slice-3.ensures ∙ c.in_ok-part.ensures ∙ ap (at_places constraints) c.as_slice-2.ensures in
    record {
      next = inr (c.args.place, c.args.deletion.members, c.requires.there, c.requires.deletion.kept, tested ∙ tested_is constraints c.args.deletion.members c.args.place c.requires.deletion.before);
      left =
          subst (λ (cs : List Constraint). IsLeftOpen c.args.schema.now cs c.args.nodes) part
          (subst (IsTested c.args.schema.now c.as_slice-3.result.now c.args.nodes) c.in-Undecided.is c.in_ok-runs.ensures.tested);
    }

pub returns-in-Undecided-clause-nested : goal.returns-in-Undecided-clause-nested
returns-in-Undecided-clause-nested c = λ easy.
    let constraints = c.args.constraints.now in
    let tested = c.as_slice-2.ensures ∙ c.in_ok-tested.ensures ∙ ap (λ (ms : List ℕ). tested_at constraints ms c.args.place) c.as_slice.ensures in
    let part = c.as_slice-3.ensures ∙ c.in_ok-part.ensures ∙ ap (at_places constraints) tested in
    subst IsTestedSurely c.in-Undecided.is
    (c.in_ok-runs.ensures.nested
    (easy_still c.args.schema.now constraints (tested_at constraints c.args.deletion.members c.args.place) (next_places c.args.schema.now constraints c.args.place c.args.deletion c.requires.deletion) c.as_slice-3.result.now part easy))
