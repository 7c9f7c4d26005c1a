use Rattle.std.proofs.Common.{◌≡◌, ◌<◌, ◌≤◌, ◌++◌, ◌∷◌, [], pos, sym, subst, length, arith, refl}
use Rattle.std.specs.Prelude.{vec_capacity}
use Rattle.std.proofs.lemmas.Grind.{common_steps}
use Rattle.pc_frontier.specs.declared.node.State.TheVariants as states
use Rattle.pc_frontier.specs.Frontier.{Seen}
use Rattle.pc_frontier.proofs.Sound.{sound_pushed, sound_grown}
use Rattle.pc_frontier.proofs.frontier.Frontier.push_node.Goals as goal

pub invariant_of-self : goal.invariant_of-self
invariant_of-self c =
    let P : Seen → Type 0 = λ f. 0 < f.room in
    let room = subst P (sym c.self.view_is) c.requires in
    let fits = c.self.invariant.fits in
    let few : length c.self.inside.nodes.items < c.self.inside.opened.limit = omega (arith, room) in
    let items : c.push.new.self.items ≡ c.self.inside.nodes.items ++ record { born = c.args.born; state = states.InHand; bound = pos 0 } ∷ [] = grind (arith, common_steps) in
    let more : vec_capacity c.self.inside.nodes ≤ vec_capacity c.push.new.self = c.push.ensures.capacity in
    rw items
    (sound_grown _ _ _ _ more
    (sound_pushed _ _ c.self.inside.nodes.items c.self.inside.opened.numbers c.self.invariant
    (record { born = c.args.born; state = states.InHand; bound = pos 0 }) refl few))
