use Rattle.std.proofs.Common.{List, sym, subst, ◌∙◌}
use Rattle.std.proofs.lemmas.Result.{IfOk-weaker}
use Rattle.pc_desk_answers.specs.Blocks.{asked_by, ground_of}
use Rattle.pc_desk_weigh.specs.declared.weighed.Weighed.{Weighed}
use Rattle.pc_desk_weigh.specs.Weighed.{AreWeighed}
use Rattle.pc_desk_weigh.proofs.AsAsked.{are_weighed, changes_are, lists_are, lists_come}
use Rattle.pc_desk_weigh.proofs.weighing.weigh.Goals as goal

pub answer_under_each-requires-clause-lists : goal.answer_under_each-requires-clause-lists
answer_under_each-requires-clause-lists g c =
    let now = c.args.observed.now in
    lists_are now.schema now.constraints c.args.asked c.as_slice-2.result.now
    (lists_come now.schema now.constraints c.args.asked c.as_slice-constraints.result.now c.in_ok-changes.changes c.as_slice.result.now c.in_ok-lists.lists c.as_slice-2.result.now
    c.as_slice-constraints.ensures c.in_ok-changes.ensures c.as_slice.ensures c.in_ok-lists.ensures c.as_slice-2.ensures)
    c.requires.usable.accepted

pub returns : goal.returns
returns g c =
    let now = c.args.observed.now in
    let ground = ground_of now c.args.nodes in
    let wanted = asked_by now.schema c.args.question.now in
    let come = lists_come now.schema now.constraints c.args.asked c.as_slice-constraints.result.now c.in_ok-changes.changes c.as_slice.result.now c.in_ok-lists.lists c.as_slice-2.result.now
    c.as_slice-constraints.ensures c.in_ok-changes.ensures c.as_slice.ensures c.in_ok-lists.ensures c.as_slice-2.ensures in
    let are = changes_are now.schema now.constraints c.args.asked c.as_slice-constraints.result.now c.in_ok-changes.changes c.as_slice.result.now c.in_ok-lists.lists c.as_slice-2.result.now
    c.as_slice-constraints.ensures c.in_ok-changes.ensures c.as_slice.ensures c.in_ok-lists.ensures c.as_slice-2.ensures in
    let weighed = are_weighed ground wanted c.args.asked c.as_slice-3.result.now c.as_slice-2.result.now c.in_ok-answers.answers (c.as_slice-3.ensures ∙ are) come c.in_ok-answers.ensures.shown in
    record {
      weighed = IfOk-weaker c.weighed_of.result _ _
          (λ all is. subst (λ (found : List Weighed). AreWeighed ground wanted c.args.asked found) (sym is) weighed)
          c.weighed_of.ensures;
    }
