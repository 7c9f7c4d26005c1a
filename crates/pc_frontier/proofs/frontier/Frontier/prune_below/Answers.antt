use Rattle.std.proofs.Common.{◌≡◌, sym, arith, to_z, of_z}
use Rattle.std.specs.Int.{w128}
use Rattle.std.proofs.lemmas.Int.{ints}
use Rattle.pc_frontier.specs.Frontier.{bound_at}
use Rattle.pc_frontier.proofs.Pruning.{low_found, prune_goes_on, prune_comes_nearer, prune_ends}
use Rattle.pc_frontier.proofs.frontier.Frontier.prune_below.Goals as goal

pub shut-requires-clause-there : goal.shut-requires-clause-there
shut-requires-clause-there c = (low_found _ (bound_at c.loop-last.self.nodes) c.loop-last.self.opened c.in-Some.last (sym c.in-Some.ensures.low)).inside

pub loop-last-smaller : goal.loop-last-smaller
loop-last-smaller c = rw c.shut.ensures (prune_comes_nearer _ c.loop-last.self c.in-Some.last (sym c.in-Some.ensures.low))

pub loop-last-preserved : goal.loop-last-preserved
loop-last-preserved c =
    rw c.shut.ensures
    (prune_goes_on _ c.args.self.now c.loop-last.self c.loop-last.count c.loop-last.invariant c.in-Some.ensures.kept c.in-Some.last (sym c.in-Some.ensures.low))

pub returns-clause-pruned : goal.returns-clause-pruned
returns-clause-pruned c =
    let same : to_z w128 (of_z w128 c.args.value) ≡ c.args.value = omega (arith, ints) in
    prune_ends c.args.value c.args.self.now c.loop-last.self c.loop-last.count (rw same at c.loop-last.invariant) c.in_default.ensures.kept (rw same at (sym c.in_default.ensures.low))
