use Rattle.std.proofs.Common.{sym, subst, refl}
use Rattle.pc_frontier.specs.Rings.{In, IsOnce}
use Rattle.pc_frontier.specs.declared.node.State.TheVariants as states
use Rattle.pc_frontier.specs.Frontier.{Seen}
use Rattle.pc_frontier.proofs.Sound.{sound_without}
use Rattle.pc_frontier.proofs.frontier.Frontier.shut.Goals as goal

pub set_state-requires : goal.set_state-requires
set_state-requires c =
    let P : Seen → Type 0 = λ f. In c.args.node f.opened in
    (c.self.invariant.opens c.args.node (subst P (sym c.self.view_is) c.requires.there)).0

pub invariant_of-self : goal.invariant_of-self
invariant_of-self c =
    let P : Seen → Type 0 = λ f. In c.args.node f.opened in
    let Q : Seen → Type 0 = λ f. IsOnce f.opened in
    rw (c.set_state.ensures.capacity, c.set_state.ensures.items, c.remove.ensures)
    (sound_without _ _ c.self.inside.nodes.items c.self.inside.opened.numbers c.self.invariant c.args.node states.Closed
    (c.self.invariant.opens c.args.node (subst P (sym c.self.view_is) c.requires.there)).0 refl (subst Q (sym c.self.view_is) c.requires.once))
