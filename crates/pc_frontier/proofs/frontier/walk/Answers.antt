use Rattle.std.proofs.Common.{◌≡◌, ◌≢◌, ◌<◌, true, length, arith, sym, ◌∙◌, to_z, of_z}
use Rattle.std.proofs.lemmas.Int.{ints}
use Rattle.std.specs.Int.{w128}
use Rattle.std.specs.Prelude.{int_lt}
use Rattle.pc_frontier.specs.Rings.{next_of, from_place}
use Rattle.pc_frontier.specs.Frontier.{bound_at}
use Rattle.pc_frontier.proofs.Placing.{walk_is_inside, walk_goes_on, walk_comes_nearer, walk_stops, walk_ends}
use Rattle.pc_frontier.proofs.frontier.walk.Goals as goal

pub bound_of-requires : goal.bound_of-requires
bound_of-requires c =
    let ne : c.loop-place.place ≢ c.args.opened.now.limit = λ e. c.loop-place-test.true (e ∙ sym c.limit-end.ensures.limit) in
    (c.requires c.loop-place.place (walk_is_inside (bound_at c.args.nodes.now) _ c.args.opened.now c.loop-place.place c.loop-place.invariant ne)).0

pub returns-then-bound_of-bound : goal.returns-then-bound_of-bound
returns-then-bound_of-bound c =
    let ne : c.loop-place.place ≢ c.args.opened.now.limit = λ e. c.loop-place-test.true (e ∙ sym c.limit-end.ensures.limit) in
    let same : to_z w128 (of_z w128 c.args.bound) ≡ c.args.bound = omega (arith, ints) in
    let own : to_z w128 (of_z w128 c.bound_of.result) ≡ c.bound_of.result = omega (arith, ints) in
    let lower : int_lt (bound_at c.args.nodes.now c.loop-place.place) c.args.bound ≡ true = rw (same, own, c.bound_of.ensures) at c.if-bound_of-bound.true in
    walk_stops (bound_at c.args.nodes.now) c.args.bound c.args.opened.now c.loop-place.place c.limit-end.ensures.listed (rw same at c.loop-place.invariant) ne lower

pub loop-place-smaller : goal.loop-place-smaller
loop-place-smaller c =
    let ne : c.loop-place.place ≢ c.args.opened.now.limit = λ e. c.loop-place-test.true (e ∙ sym c.limit-end.ensures.limit) in
    let less : length (from_place (next_of c.args.opened.now.numbers c.args.opened.now.limit c.loop-place.place) c.args.opened.now.numbers) < length (from_place c.loop-place.place c.args.opened.now.numbers) =
    walk_comes_nearer (bound_at c.args.nodes.now) _ c.args.opened.now c.loop-place.place c.limit-end.ensures.listed c.loop-place.invariant ne in
    rw c.next-place.ensures less

pub loop-place-preserved : goal.loop-place-preserved
loop-place-preserved c =
    let ne : c.loop-place.place ≢ c.args.opened.now.limit = λ e. c.loop-place-test.true (e ∙ sym c.limit-end.ensures.limit) in
    let own : to_z w128 (of_z w128 c.bound_of.result) ≡ c.bound_of.result = omega (arith, ints) in
    rw c.next-place.ensures
    (walk_goes_on (bound_at c.args.nodes.now) _ c.args.opened.now c.loop-place.place c.limit-end.ensures.listed c.loop-place.invariant ne (rw (own, c.bound_of.ensures) at c.if-bound_of-bound.false))

pub returns : goal.returns
returns c =
    let same : to_z w128 (of_z w128 c.args.bound) ≡ c.args.bound = omega (arith, ints) in
    sym c.loop-place-test.false
    ∙ walk_ends (bound_at c.args.nodes.now) c.args.bound c.args.opened.now c.loop-place.place c.limit-end.ensures.listed (rw same at c.loop-place.invariant) (c.loop-place-test.false ∙ c.limit-end.ensures.limit)
