use Rattle.std.proofs.Common.{◌≡◌, to_z, of_z, arith}
use Rattle.std.specs.Int.{w128}
use Rattle.std.proofs.lemmas.Int.{ints}
use Rattle.std.proofs.lemmas.Result.{IfOk-weaker}
use Rattle.pc_branch.proofs.Widths.{HasFitWidth-small}
use Rattle.pc_agg_search.proofs.Probing.{probed_best, probed_spent, sure_best}
use Rattle.pc_agg_search.proofs.probes.probe.Goals as goal

pub solve-requires-clause-width : goal.solve-requires-clause-width
solve-requires-clause-width c = HasFitWidth-small c.args.program.now c.requires.program c.requires.small

pub returns-in-Best-clause-probed : goal.returns-in-Best-clause-probed
returns-in-Best-clause-probed c =
    let same : to_z w128 (of_z w128 c.in-Best.value) ≡ c.in-Best.value = omega (arith, ints) in
    IfOk-weaker c.within.result _ _
    (λ probed is. probed_best c.args.program.now c.args.nodes c.args.want c.args.found c.requires.program c.requires.small c.in-Best.counts c.in-Best.value c.in-Best.tree probed
    (rw c.in-Best.is at c.in_ok-counts.ensures.outcome) is)
    (rw same at c.within.ensures)

pub returns-in-Best-clause-nested : goal.returns-in-Best-clause-nested
returns-in-Best-clause-nested c =
    let same : to_z w128 (of_z w128 c.in-Best.value) ≡ c.in-Best.value = omega (arith, ints) in
    λ nested.
    IfOk-weaker c.within.result _ _
    (λ probed is. sure_best c.args.program.now c.args.nodes c.args.want c.args.found c.requires.program c.requires.small c.in-Best.counts c.in-Best.value c.in-Best.tree probed
    (rw c.in-Best.is at c.in_ok-counts.ensures.outcome) is)
    (rw same at c.within.ensures)

pub returns-in-Spent-clause-probed : goal.returns-in-Spent-clause-probed
returns-in-Spent-clause-probed c =
    let same : to_z w128 (of_z w128 c.in-Spent.bound) ≡ c.in-Spent.bound = omega (arith, ints) in
    IfOk-weaker c.within-in-Spent.result _ _
    (λ probed is. probed_spent c.args.program.now c.args.nodes c.args.want c.args.found c.requires.program c.requires.small c.in-Spent.bound c.in-Spent.best c.in-Spent.tree probed
    (rw c.in-Spent.is at c.in_ok-counts.ensures.outcome) is)
    (rw same at c.within-in-Spent.ensures)
