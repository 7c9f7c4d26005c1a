use Rattle.std.proofs.Common.{◌≡◌, arith, to_z, of_z, ◌∙◌}
use Rattle.std.specs.Int.{w128}
use Rattle.std.proofs.lemmas.Int.{ints}
use Rattle.pc_branch.proofs.Parting.{gains_fit}
use Rattle.pc_branch.proofs.Rooted.{started}
use Rattle.pc_branch.proofs.start.start.Goals as goal

pub returns-clause-at : goal.returns-clause-at
returns-clause-at c =
    let same : to_z w128 (of_z w128 c.bound_of-limit.result) ≡ c.bound_of-limit.result = omega (arith, ints) in
    c.pick-hand.ensures.next c.args.p.now c.in_ok-root.root.node.bound
    (started c.args.p.now c.requires.program c.args.nodes c.requires.nodes c.in_ok-none.none (to_z w128 (of_z w128 c.bound_of-limit.result)) c.as_slice-floor.result.now c.as_slice-cap.result.now c.in_ok-root.root
    c.in_ok-frontier.frontier c.in_ok-search.search c.in_ok-none.ensures.value c.as_slice-floor.ensures c.as_slice-cap.ensures (same ∙ c.bound_of-limit.ensures) c.in_ok-frontier.ensures c.in_ok-search.ensures
    c.in_ok-root.ensures.visited c.in_ok-root.ensures.counts)

pub visit_box-requires-clause-gains : goal.visit_box-requires-clause-gains
visit_box-requires-clause-gains c = gains_fit c.args.p.now c.requires.program c.requires.width
