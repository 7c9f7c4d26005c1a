use Rattle.std.proofs.Common.{◌≡◌, sym, subst, ◌∙◌, ℕ, Option, None}
use Rattle.pc_frontier.specs.Frontier.{Seen, low_of, bound_at}
use Rattle.pc_frontier.specs.Inside.{IsFew}
use Rattle.pc_frontier.proofs.Falling.{last_inside}
use Rattle.pc_frontier.proofs.Pruning.{is_few, low_none}
use Rattle.pc_frontier.proofs.frontier.Frontier.last_below.Goals as goal

pub returns-then-last-limit-clause-low : goal.returns-then-last-limit-clause-low
returns-then-last-limit-clause-low c =
    let P : Seen → Type 0 = λ f. ◌≡◌ {A = Option ℕ} None (low_of c.args.value (bound_at f.nodes) 0 f.opened) in
    subst P c.self.view_is
    (low_none c.args.value (bound_at c.self.inside.nodes.items) c.self.inside.opened.limit c.self.inside.opened.numbers c.limit.ensures.listed.below
    (sym c.last-last.ensures ∙ c.if-last-limit.true ∙ c.limit.ensures.limit))

pub returns-then-last-limit-clause-kept : goal.returns-then-last-limit-clause-kept
returns-then-last-limit-clause-kept c =
    subst IsFew c.self.view_is (is_few _ _ _ c.self.inside.nodes.items c.self.inside.opened.numbers c.self.invariant c.limit.ensures.listed)

pub bound_of-requires : goal.bound_of-requires
bound_of-requires c =
    rw c.deref.ensures.value
    (c.self.invariant.opens c.last-last.result
    (last_inside c.self.inside.opened.limit c.self.inside.opened.numbers c.last-last.result c.last-last.ensures (λ e. c.if-last-limit.false (e ∙ sym c.limit.ensures.limit)))).0

pub returns-then-bound_of-value-clause-kept : goal.returns-then-bound_of-value-clause-kept
returns-then-bound_of-value-clause-kept c =
    subst IsFew c.self.view_is (is_few _ _ _ c.self.inside.nodes.items c.self.inside.opened.numbers c.self.invariant c.limit.ensures.listed)

pub returns-clause-kept : goal.returns-clause-kept
returns-clause-kept c =
    subst IsFew c.self.view_is (is_few _ _ _ c.self.inside.nodes.items c.self.inside.opened.numbers c.self.invariant c.limit.ensures.listed)
