use Rattle.std.proofs.Common.{◌∙◌, ap, sym, true≢false}
use Rattle.std.specs.List.{list_all}
use Rattle.std.proofs.lemmas.Result.{IfOk-weaker}
use Rattle.pc_desk_short.specs.declared.claim.Limit.TheVariants.{Least, Most}
use Rattle.pc_desk_short.specs.Shortage.{is_served}
use Rattle.pc_desk_short.proofs.Claims.{totals_fit}
use Rattle.pc_desk_short.proofs.Served.{all_served, rows_served, short_found}
use Rattle.pc_desk_short.proofs.Weights.{sized_parts}
use Rattle.pc_desk_short.proofs.shortage.shortage_by.Goals as goal

pub returns-then-not-are_served-clause-told : goal.returns-then-not-are_served-clause-told
returns-then-not-are_served-clause-told c = λ none sized short.
    let constraints = c.args.constraints.now in
    let weights = c.args.weights.now in
    let openings = c.in_ok-openings.openings in
    let tested = c.are_served.ensures ∙ ap (list_all (is_served weights)) c.as_slice.ensures in
    let all = all_served c.args.schema.now constraints weights (sized_parts constraints weights sized).0 openings c.in_ok-openings.ensures.opens.each short.served in
    true≢false (sym all ∙ sym tested ∙ c.if-not-are_served.true)

pub short_by-requires-clause-needed : goal.short_by-requires-clause-needed
short_by-requires-clause-needed c =
    totals_fit Least c.args.schema.now c.args.constraints.now c.args.weights.now c.requires.accepted (sym c.are_sized.ensures ∙ c.if-not-are_sized.false)

pub short_by-requires-clause-room : goal.short_by-requires-clause-room
short_by-requires-clause-room c =
    totals_fit Most c.args.schema.now c.args.constraints.now c.args.weights.now c.requires.accepted (sym c.are_sized.ensures ∙ c.if-not-are_sized.false)

pub returns-clause-short : goal.returns-clause-short
returns-clause-short c =
    let schema = c.args.schema.now in
    let constraints = c.args.constraints.now in
    let weights = c.args.weights.now in
    let sized = sym c.are_sized.ensures ∙ c.if-not-are_sized.false in
    let tested = c.are_served.ensures ∙ ap (list_all (is_served weights)) c.as_slice.ensures in
    let served = rows_served schema constraints weights (sized_parts constraints weights sized).0 c.in_ok-openings.openings c.in_ok-openings.ensures.opens (sym tested ∙ c.if-not-are_served.false) in
    IfOk-weaker c.short_by.result _ _ (λ found e. short_found schema constraints weights served found e) c.short_by.ensures
