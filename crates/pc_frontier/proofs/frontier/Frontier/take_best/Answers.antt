use Rattle.std.proofs.Common.{sym, refl, ◌∙◌}
use Rattle.pc_frontier.specs.Rings.{In}
use Rattle.pc_frontier.specs.declared.node.State.TheVariants as states
use Rattle.pc_frontier.proofs.Placing.{first_inside}
use Rattle.pc_frontier.proofs.Sound.{sound_without}
use Rattle.pc_frontier.proofs.frontier.Frontier.take_best.Goals as goal

pub invariant_of-self : goal.invariant_of-self
invariant_of-self c =
    let there : In c.first-first.result c.self.inside.opened.numbers =
    first_inside c.self.inside.opened.limit c.self.inside.opened.numbers c.first-first.result c.first-first.ensures (λ e. c.if-first-limit.false (e ∙ sym c.limit.ensures.limit)) in
    rw (c.set_state.ensures.capacity, c.set_state.ensures.items, c.remove.ensures)
    (sound_without _ _ c.self.inside.nodes.items c.self.inside.opened.numbers c.self.invariant c.first-first.result states.InHand (c.self.invariant.opens _ there).0 refl
    c.limit.ensures.listed.once)
