use Rattle.std.proofs.Common.{sym, subst}
use Rattle.pc_frontier.specs.Frontier.{Seen, IsInHand}
use Rattle.pc_frontier.proofs.Sound.{sound_moved}
use Rattle.pc_frontier.proofs.frontier.Frontier.move_to.Goals as goal

pub invariant_of-self : goal.invariant_of-self
invariant_of-self c =
    let P : Seen → Type 0 = λ f. IsInHand f c.args.node in
    let hand = subst P (sym c.self.view_is) c.requires.node in
    rw (c.set_state.ensures.capacity, c.set_state.ensures.items)
    (sound_moved _ _ c.self.inside.nodes.items c.self.inside.opened.numbers c.self.invariant c.args.node c.args.state hand.0 c.requires.state hand.1)
