use Rattle.std.proofs.Common.{◌≡◌, All, List, [], map, ap, ◌∙◌}
use Rattle.std.proofs.lemmas.List.Elements.{All-cons, All-nil}
use Rattle.std.proofs.lemmas.Result.{on_ok_weaker}
use Rattle.pc_model.specs.declared.query.Query.{Query}
use Rattle.pc_model.specs.Accepted.{IsQuery}
use Rattle.pc_group.specs.Wanted.{area_of, wanted, wanted_by}
use Rattle.pc_group.proofs.Areas.{are_areas, divided_for, one_wanted}
use Rattle.pc_group.proofs.Inner.{still_divided}
use Rattle.pc_group.proofs.refining.divide_for.Goals as goal

pub refine_for_all-requires-clause-areas : goal.refine_for_all-requires-clause-areas
refine_for_all-requires-clause-areas c =
    let schema = c.args.schema.now in
    let asked : All (IsQuery schema) c.from_ref.result.now = rw c.from_ref.ensures.value (All-cons (IsQuery schema) c.args.query.now [] c.requires.asked (All-nil (IsQuery schema))) in
    are_areas schema c.from_ref.result.now c.as_slice.result.now asked (c.as_slice.ensures ∙ c.in_ok-areas.ensures)

pub returns-clause-divided : goal.returns-clause-divided
returns-clause-divided c =
    let schema = c.args.schema.now in
    let query = c.args.query.now in
    let areas : c.as_slice.result.now ≡ map area_of (wanted_by schema query) =
    c.as_slice.ensures ∙ c.in_ok-areas.ensures ∙ ap (λ (queries : List Query). map area_of (wanted schema queries)) c.from_ref.ensures.value ∙ ap (map area_of) (one_wanted schema query) in
    on_ok_weaker c.refine_for_all.result (λ each. divided_for schema c.args.constraints.now c.refine_for_all.new.shared.nodes (wanted_by schema query) c.as_slice.result.now areas each) c.refine_for_all.ensures.divided

pub returns-clause-still : goal.returns-clause-still
returns-clause-still c = still_divided c.args.schema.now c.args.constraints.now c.args.shared.now.nodes c.refine_for_all.new.shared.nodes c.requires.tree c.refine_for_all.ensures.kept
