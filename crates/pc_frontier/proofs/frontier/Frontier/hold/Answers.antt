use Rattle.std.proofs.Common.{◌≡◌, sym, subst, to_z, of_z, arith}
use Rattle.std.specs.Int.{w128}
use Rattle.std.proofs.lemmas.Int.{ints}
use Rattle.pc_frontier.specs.Rings.{placed_before}
use Rattle.pc_frontier.specs.Frontier.{Seen, IsInHand, bound_at, placed}
use Rattle.pc_frontier.proofs.Placing.{place_is_placed, put_at}
use Rattle.pc_frontier.proofs.Sound.{sound_held, seen_held}
use Rattle.pc_frontier.proofs.frontier.Frontier.hold.Goals as goal

pub place_for-place-requires-clause-opens : goal.place_for-place-requires-clause-opens
place_for-place-requires-clause-opens c = rw c.deref.ensures.value c.self.invariant.opens

pub put_before-requires-clause-place : goal.put_before-requires-clause-place
put_before-requires-clause-place c = place_is_placed (bound_at c.deref.result.now) _ c.self.inside.opened c.place_for-place.result c.place_for-place.ensures.place

pub invariant_of-self : goal.invariant_of-self
invariant_of-self c =
    let same : to_z w128 (of_z w128 c.args.bound) ≡ c.args.bound = omega (arith, ints) in
    let P : Seen → Type 0 = λ f. IsInHand f c.args.node in
    let hand = subst P (sym c.self.view_is) c.requires in
    let numbers : placed_before c.place_for-place.result c.args.node c.self.inside.opened.numbers ≡ placed (bound_at c.self.inside.nodes.items) c.args.node c.args.bound c.self.inside.opened.numbers =
    put_at (bound_at c.self.inside.nodes.items) c.args.bound c.self.inside.opened c.args.node c.place_for-place.result c.place_for-place.ensures.listed
    (rw (c.deref.ensures.value, same) at c.place_for-place.ensures.place) in
    rw (c.open.ensures.capacity, c.open.ensures.items, same, c.put_before.ensures, numbers)
    (sound_held _ _ c.self.inside.nodes.items c.self.inside.opened.numbers c.self.invariant c.args.node c.args.bound hand.0 hand.1)

pub returns : goal.returns
returns c =
    let same : to_z w128 (of_z w128 c.args.bound) ≡ c.args.bound = omega (arith, ints) in
    let numbers : placed_before c.place_for-place.result c.args.node c.self.inside.opened.numbers ≡ placed (bound_at c.self.inside.nodes.items) c.args.node c.args.bound c.self.inside.opened.numbers =
    put_at (bound_at c.self.inside.nodes.items) c.args.bound c.self.inside.opened c.args.node c.place_for-place.result c.place_for-place.ensures.listed
    (rw (c.deref.ensures.value, same) at c.place_for-place.ensures.place) in
    rw (c.open.ensures.items, same, c.put_before.ensures, numbers, ← c.self.view_is)
    (seen_held c.self.inside.opened.limit c.self.inside.nodes.items c.self.inside.opened.numbers c.args.node c.args.bound)
