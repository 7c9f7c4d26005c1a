use Rattle.std.proofs.Common.{◌∙◌, ◌++◌, List, ap, ap₂, drop, subst, sym, take}
use Rattle.std.proofs.lemmas.List.{take-append-drop}
use Rattle.std.proofs.lemmas.Result.{IfOk-weaker}
use Rattle.pc_model.specs.Accepted.{AreConstraints}
use Rattle.pc_model.specs.declared.constraint.Constraint.{Constraint}
use Rattle.pc_desk_limit.specs.Closing.{AreRegions, closing_boxes, named_boxes, opened_boxes}
use Rattle.pc_desk_limit.specs.Limiting.{IsLimiting, NoneIsOutside, written_of}
use Rattle.pc_desk_limit.proofs.Closed.{are_of_one, limiting}
use Rattle.pc_desk_limit.proofs.limiting.limit.Goals as goal

pub closing_boxes-requires : goal.closing_boxes-requires
closing_boxes-requires c =
    let schema = c.args.schema.now in
    let all = c.args.all in
    let constraints = take c.args.opening all in
    let limits = drop c.args.opening all in
    let accepted = subst (AreConstraints schema) (sym (take-append-drop c.args.opening all)) c.requires.accepted in
    let constraints_are = c.first.ensures.first ∙ ap (take c.args.opening) c.as_slice-2.ensures in
    let limits_are = c.after.ensures ∙ ap (drop c.args.opening) c.as_slice-3.ensures in
    record {
      one_schema = (
        schema,
        subst (AreRegions schema)
            (sym (ap₂ (λ (xs ys : List Constraint). named_boxes xs ++ opened_boxes ys) constraints_are limits_are)) (are_of_one schema constraints limits accepted),
      );
    }

pub returns : goal.returns
returns c =
    let schema = c.args.schema.now in
    let all = c.args.all in
    let constraints = take c.args.opening all in
    let limits = drop c.args.opening all in
    let whole = take-append-drop c.args.opening all in
    let constraints_are = c.first.ensures.first ∙ ap (take c.args.opening) c.as_slice-2.ensures in
    let limits_are = c.after.ensures ∙ ap (drop c.args.opening) c.as_slice-3.ensures in
    let boxes = c.in_ok-boxes.ensures.closing ∙ ap₂ closing_boxes constraints_are limits_are in
    let none = subst NoneIsOutside (c.as_slice.ensures ∙ sym whole) (rw c.in_default.is at c.outside_place.ensures) in
    let is = limiting schema constraints limits c.requires.well_formed (subst (AreConstraints schema) (sym whole) c.requires.accepted) none in
    let written = subst (λ (list : List Constraint). IsLimiting schema constraints limits (written_of schema list (closing_boxes constraints limits))) whole is in
    record {
      limits = IfOk-weaker c.written.result _ _ (λ found made. subst (IsLimiting schema constraints limits)
          (sym (made ∙ ap (written_of schema all) boxes)) written) c.written.ensures;
    }
