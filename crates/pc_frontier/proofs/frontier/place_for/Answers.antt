use Rattle.std.proofs.Common.{◌≡◌, ◌∙◌, sym, arith, to_z, of_z}
use Rattle.std.specs.Int.{w128}
use Rattle.std.proofs.lemmas.Int.{ints}
use Rattle.pc_frontier.specs.Frontier.{bound_at}
use Rattle.pc_frontier.proofs.Falling.{last_inside, place_past}
use Rattle.pc_frontier.proofs.frontier.place_for.Goals as goal

pub bound_of-requires : goal.bound_of-requires
bound_of-requires c =
    (c.requires.opens c.last-last.result
    (last_inside c.args.opened.now.limit c.args.opened.now.numbers c.last-last.result c.last-last.ensures (λ e. c.if-last-end.true (e ∙ sym c.limit-end.ensures.limit)))).0

pub returns-then-bound_of-bound-clause-place : goal.returns-then-bound_of-bound-clause-place
returns-then-bound_of-bound-clause-place c =
    let same : to_z w128 (of_z w128 c.args.bound) ≡ c.args.bound = omega (arith, ints) in
    let own : to_z w128 (of_z w128 c.bound_of.result) ≡ c.bound_of.result = omega (arith, ints) in
    let test = rw (same, own, c.bound_of.ensures, c.last-last.ensures) at c.if-bound_of-bound.true in
    c.limit-end.ensures.limit
    ∙ sym (place_past (bound_at c.args.nodes.now) c.args.bound c.args.opened.now.limit c.args.opened.now.numbers c.requires.falling
    (grind (arith, ints, test)))
