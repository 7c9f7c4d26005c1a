use Rattle.std.proofs.Common.{◌∙◌}
use Rattle.std.proofs.lemmas.Result.{IfOk-weaker}
use Rattle.pc_gen.proofs.DrawnConstraints.{when_is, after_when}
use Rattle.pc_gen.proofs.constraint.draw_when.Goals as goal

pub returns-clause-region : goal.returns-clause-region
returns-clause-region c =
    let same = when_is c.args.number _ _ _ _ _ _ c.draw_branches-branches.ensures.side c.draw_branches-branches.ensures.state c.draw_span-days.ensures.side c.draw_span-days.ensures.state c.draw_prices-prices.ensures.side in
    IfOk-weaker c.region_of.result _ _ (λ region is. is ∙ same) c.region_of.ensures

pub returns-clause-state : goal.returns-clause-state
returns-clause-state c = after_when c.args.number _ _ _ _ c.draw_branches-branches.ensures.state c.draw_span-days.ensures.state c.draw_prices-prices.ensures.state
