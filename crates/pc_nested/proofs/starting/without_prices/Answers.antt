use Rattle.std.proofs.Common.{◌∙◌, [], ◌∷◌, ◌++◌, ap, ap₂, sym, map}
use Rattle.std.proofs.lemmas.List.{map_more, take_all}
use Rattle.pc_nested.specs.Narrowed.{flat}
use Rattle.pc_nested.proofs.starting.without_prices.Goals as goal

pub loop-step-preserved : goal.loop-step-preserved
loop-step-preserved c =
    c.in_ok-push.ensures.ok ∙ ap₂ (λ xs x. xs ++ x ∷ []) c.loop-step.invariant c.flat.ensures
    ∙ sym (map_more flat c.args.steps.now c.loop-step.step-index _ c.loop-step-test.true)

pub returns : goal.returns
returns c = c.loop-step.invariant ∙ ap (map flat) (take_all c.loop-step.step-index c.args.steps.now c.loop-step-test.false)
