use Rattle.std.proofs.Common.{ap, ◌∙◌, ◌++◌, ◌∷◌, [], subst, sym}
use Rattle.std.proofs.lemmas.Result.{IfOk-weaker}
use Rattle.pc_check_rules.specs.declared.walk.Turn.TheVariants.{Less}
use Rattle.pc_check_rules.specs.Walk.{IsLeaving, HasLeft}
use Rattle.pc_check_rules.proofs.Turns.{more-done, more-left}
use Rattle.pc_check_rules.proofs.walk.Walk.leave.Goals as goal

pub returns-in-Less : goal.returns-in-Less
returns-in-Less c =
    let popped = c.in-Some.ensures.items ∙ ap (λ turn. c.pop.new.self.items ++ turn ∷ []) c.in-Less.is in
    let leaving = subst (IsLeaving c.args.self c.loop-turn.floors) (popped ∙ ap (λ items. items ++ Less c.in-Less.cell c.in-Less.cap c.in-Less.floor ∷ []) (sym c.from_vec.ensures)) c.loop-turn.invariant in
    IfOk-weaker c.enter_more.result _ (HasLeft c.args.self)
    (λ w same. subst (HasLeft c.args.self) (sym same) (more-left c.args.self c.loop-turn.floors c.from_vec.result c.in-Less.cell c.in-Less.cap c.in-Less.floor leaving))
    c.enter_more.ensures

pub loop-turn-preserved : goal.loop-turn-preserved
loop-turn-preserved c =
    let popped = c.in-Some.ensures.items ∙ ap (λ turn. c.pop.new.self.items ++ turn ∷ []) c.in-More.is in
    let leaving = subst (IsLeaving c.args.self c.loop-turn.floors) popped c.loop-turn.invariant in
    rw c.replaced.ensures.numbers (more-done c.args.self c.loop-turn.floors c.pop.new.self.items c.in-More.cell c.in-More.floor leaving)
