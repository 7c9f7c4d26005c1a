use Rattle.std.proofs.Common.{◌≡◌, subst, to_z, of_z, arith}
use Rattle.std.specs.Int.{w128}
use Rattle.std.proofs.lemmas.Int.{ints}
use Rattle.pc_branch.specs.Outcome.{IsOutcome}
use Rattle.pc_branch.proofs.Widths.{HasFitWidth-small}
use Rattle.pc_proof.specs.Table.{ratio_of}
use Rattle.pc_avg_ratio.specs.Steps.{IsProgramAt}
use Rattle.pc_avg_ratio.proofs.Outcomes.{best_counts, best_small, best_within_at, never_nothing}
use Rattle.pc_avg_ratio.proofs.steps.take_step.Goals as goal

pub solve-requires-clause-width : goal.solve-requires-clause-width
solve-requires-clause-width c = HasFitWidth-small c.in_ok-program.program c.in_ok-program.ensures.is_program c.in_ok-program.ensures.small

pub after_best-requires-clause-best : goal.after_best-requires-clause-best
after_best-requires-clause-best c =
    let p = c.in_ok-program in
    let at : IsProgramAt c.args.average.now.fraction.now (ratio_of c.args.standing.ratio) p.program = record { same = p.ensures.program; program = p.ensures.is_program; small = p.ensures.small } in
    best_counts c.args.average.now.fraction.now (ratio_of c.args.standing.ratio) p.program at c.args.average.now.nodes c.in-Best.counts c.in-Best.value c.in-Best.tree
    (subst (IsOutcome p.program c.args.average.now.nodes) c.in-Best.is c.in_ok-counts.ensures.outcome)

pub after_best-requires-clause-small : goal.after_best-requires-clause-small
after_best-requires-clause-small c =
    let p = c.in_ok-program in
    let at : IsProgramAt c.args.average.now.fraction.now (ratio_of c.args.standing.ratio) p.program = record { same = p.ensures.program; program = p.ensures.is_program; small = p.ensures.small } in
    let small = best_small c.args.average.now.fraction.now (ratio_of c.args.standing.ratio) p.program at c.args.average.now.nodes c.in-Best.counts c.in-Best.value c.in-Best.tree
    (subst (IsOutcome p.program c.args.average.now.nodes) c.in-Best.is c.in_ok-counts.ensures.outcome) in
    let same : to_z w128 (of_z w128 c.in-Best.value) ≡ c.in-Best.value = omega (arith, ints) in
    rw same small

pub returns-in-Best-clause-step : goal.returns-in-Best-clause-step
returns-in-Best-clause-step c =
    let p = c.in_ok-program in
    let f = c.args.average.now.fraction.now in
    let r = ratio_of c.args.standing.ratio in
    let at : IsProgramAt f r p.program = record { same = p.ensures.program; program = p.ensures.is_program; small = p.ensures.small } in
    let outcome = subst (IsOutcome p.program c.args.average.now.nodes) c.in-Best.is c.in_ok-counts.ensures.outcome in
    let small = best_small f r p.program at c.args.average.now.nodes c.in-Best.counts c.in-Best.value c.in-Best.tree outcome in
    let same : to_z w128 (of_z w128 c.in-Best.value) ≡ c.in-Best.value = omega (arith, ints) in
    let within = best_within_at f r p.program at c.args.average.now.nodes c.in-Best.counts c.in-Best.value c.in-Best.tree outcome in
    c.after_best.ensures.step c.args.average.now.outermost c.args.average.now.nodes (rw same within)

pub unreachable-requires : goal.unreachable-requires
unreachable-requires c =
    let p = c.in_ok-program in
    let at : IsProgramAt c.args.average.now.fraction.now (ratio_of c.args.standing.ratio) p.program = record { same = p.ensures.program; program = p.ensures.is_program; small = p.ensures.small } in
    never_nothing c.args.average.now.fraction.now (ratio_of c.args.standing.ratio) p.program at c.args.average.now.nodes c.args.standing.counts c.in-Nothing.tree c.requires.standing.ratio.has.lawful
    (subst (IsOutcome p.program c.args.average.now.nodes) c.in-Nothing.is c.in_ok-counts.ensures.outcome)
