use Rattle.std.proofs.Common.{ap, ◌∙◌, ◌++◌, ◌∷◌, [], subst, sym}
use Rattle.std.proofs.lemmas.Result.{IfOk-weaker}
use Rattle.pc_program_bound.specs.declared.walk.OpenSplit.TheVariants.{Less}
use Rattle.pc_program_bound.specs.Walk.{IsLeaving, HasLeft}
use Rattle.pc_program_bound.proofs.WalkSteps.{more-done, more-left}
use Rattle.pc_program_bound.proofs.walk.Walk.leave.Goals as goal

pub returns-in-Less : goal.returns-in-Less
returns-in-Less c =
    let popped = c.in-Some.ensures.items ∙ ap (λ split. c.pop.new.self.items ++ split ∷ []) c.in-Less.is in
    let leaving = subst (IsLeaving c.args.self c.loop-split.floors) (popped ∙ ap (λ items. items ++ Less c.in-Less.cell c.in-Less.cap c.in-Less.floor ∷ []) (sym c.from_vec-splits.ensures)) c.loop-split.invariant in
    IfOk-weaker c.enter_more.result _ (HasLeft c.args.self)
    (λ w same. subst (HasLeft c.args.self) (sym same) (more-left c.args.self c.loop-split.floors c.from_vec-splits.result c.in-Less.cell c.in-Less.cap c.in-Less.floor leaving))
    c.enter_more.ensures

pub loop-split-preserved : goal.loop-split-preserved
loop-split-preserved c =
    let popped = c.in-Some.ensures.items ∙ ap (λ split. c.pop.new.self.items ++ split ∷ []) c.in-More.is in
    let leaving = subst (IsLeaving c.args.self c.loop-split.floors) popped c.loop-split.invariant in
    rw c.replaced.ensures.numbers (more-done c.args.self c.loop-split.floors c.pop.new.self.items c.in-More.cell c.in-More.floor leaving)
