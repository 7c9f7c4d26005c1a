use Rattle.std.proofs.Common.{◌∙◌, true≢false, sym}
use Rattle.pc_nested.proofs.Sizes.{order_before, past_narrowed, stopped_from}
use Rattle.pc_nested.proofs.ordering.narrow_at.Goals as goal

pub returns-then-not-can_be_met : goal.returns-then-not-can_be_met
returns-then-not-can_be_met c =
    let n = c.args.narrowing in (
      c.requires.narrowing,
      c.requires.there,
      order_before c.args.p.now c.args.place n.steps c.args.size c.size_of.result c.requires.nested c.requires.there c.size_of.ensures c.if-size_of-size.false c.requires.past,
      stopped_from c.args.p.now c.args.place n.lows n.highs (λ can. true≢false (sym (c.can_be_met.ensures.1 can) ∙ c.if-not-can_be_met.true)),
    )

pub narrow-requires-clause-order : goal.narrow-requires-clause-order
narrow-requires-clause-order c =
    order_before c.args.p.now c.args.place c.args.narrowing.steps c.args.size c.size_of.result c.requires.nested c.requires.there c.size_of.ensures
    c.if-size_of-size.false c.requires.past

pub returns : goal.returns
returns c = (
  c.in_ok-narrowing.ensures.narrowing,
  past_narrowed c.args.p.now c.args.place c.args.narrowing.steps c.in_ok-narrowing.narrowing.steps c.args.size c.size_of.result c.requires.there c.size_of.ensures
      c.if-size_of-size.false c.in_ok-narrowing.ensures.places c.requires.past,
)
