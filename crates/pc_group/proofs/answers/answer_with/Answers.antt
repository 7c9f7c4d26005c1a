use Rattle.std.proofs.Common.{◌∙◌}
use Rattle.pc_group.specs.Wanted.{wanted}
use Rattle.pc_group.proofs.Areas.{are_areas, divided_for}
use Rattle.pc_group.proofs.FormedBlocks.{all_formed}
use Rattle.pc_group.proofs.NeededCuts.{needed_for}
use Rattle.pc_group.proofs.answers.answer_with.Goals as goal

pub refine_for_all-requires-clause-areas : goal.refine_for_all-requires-clause-areas
refine_for_all-requires-clause-areas c = are_areas c.args.schema.now c.args.queries.now c.as_slice.result.now c.requires.asked (c.as_slice.ensures ∙ c.in_ok-areas.ensures)

pub answer_queries-requires-clause-divided : goal.answer_queries-requires-clause-divided
answer_queries-requires-clause-divided c =
    divided_for c.args.schema.now c.args.constraints.now c.refine_for_all.new.shared.nodes (wanted c.args.schema.now c.args.queries.now) c.as_slice.result.now (c.as_slice.ensures ∙ c.in_ok-areas.ensures) c.in_ok-refine_for_all.ensures.divided

pub returns-clause-divided : goal.returns-clause-divided
returns-clause-divided c =
    divided_for c.args.schema.now c.args.constraints.now c.refine_for_all.new.shared.nodes (wanted c.args.schema.now c.args.queries.now) c.as_slice.result.now (c.as_slice.ensures ∙ c.in_ok-areas.ensures) c.in_ok-refine_for_all.ensures.divided

pub returns-clause-formed : goal.returns-clause-formed
returns-clause-formed c = λ first.
    all_formed c.args.nodes c.args.schema.now c.args.rows.now c.args.constraints.now c.refine_for_all.new.shared.nodes c.requires.seen (c.in_ok-refine_for_all.ensures.own first) (wanted c.args.schema.now c.args.queries.now)
    c.in_ok-written.written.blocks c.in_ok-written.ensures.answers c.in_ok-written.ensures.of_tree

pub returns-in_err-refine_for_all-clause-needed : goal.returns-in_err-refine_for_all-clause-needed
returns-in_err-refine_for_all-clause-needed c =
    needed_for c.args.schema.now c.args.constraints.now c.args.shared.now.nodes c.refine_for_all.new.shared.nodes (wanted c.args.schema.now c.args.queries.now) c.as_slice.result.now (c.as_slice.ensures ∙ c.in_ok-areas.ensures) c.refine_for_all.ensures.needed

pub returns-in_err-written-clause-needed : goal.returns-in_err-written-clause-needed
returns-in_err-written-clause-needed c =
    needed_for c.args.schema.now c.args.constraints.now c.args.shared.now.nodes c.refine_for_all.new.shared.nodes (wanted c.args.schema.now c.args.queries.now) c.as_slice.result.now (c.as_slice.ensures ∙ c.in_ok-areas.ensures) c.refine_for_all.ensures.needed

pub returns-clause-needed : goal.returns-clause-needed
returns-clause-needed c =
    needed_for c.args.schema.now c.args.constraints.now c.args.shared.now.nodes c.refine_for_all.new.shared.nodes (wanted c.args.schema.now c.args.queries.now) c.as_slice.result.now (c.as_slice.ensures ∙ c.in_ok-areas.ensures) c.refine_for_all.ensures.needed
