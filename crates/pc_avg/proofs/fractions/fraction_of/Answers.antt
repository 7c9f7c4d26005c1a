use Rattle.std.proofs.Common.{◌≡◌, ◌*◌, ◌≤◌, ◌^◌, nat_abs, subst, sym, to_z, of_z, arith}
use Rattle.std.specs.Int.{w128}
use Rattle.std.specs.Prelude.{All}
use Rattle.std.proofs.lemmas.Int.{ints}
use Rattle.std.proofs.lemmas.List.Elements.{All-weaker}
use Rattle.pc_num.specs.Scaled.{greatest_size}
use Rattle.pc_avg.proofs.ChosenFractions.{small_keys, is_fractional}
use Rattle.pc_avg.proofs.fractions.fraction_of.Goals as goal

pub gained_program-requires-clause-small_gains : goal.gained_program-requires-clause-small_gains
gained_program-requires-clause-small_gains c =
    let small = small_keys c.args.problem.now.schema.now c.args.problem.now.constraints.now c.args.problem.now.query.now c.args.problem.now.cells.now.tree.nodes c.requires.posed.formed c.requires.posed.limited c.requires.posed.found.tree c.args.extreme c.args.picks.now c.requires.picked in
    subst (All (λ n. nat_abs n ≤ 402 * 10 ^ 21)) (sym c.requires.keyed)
    (All-weaker (λ n. nat_abs n ≤ greatest_size) (λ n. nat_abs n ≤ 402 * 10 ^ 21) (λ n less. omega (arith, less)) _ small)

pub returns-clause-fractional : goal.returns-clause-fractional
returns-clause-fractional c =
    let same : to_z w128 (of_z w128 c.seen_sum.result) ≡ c.seen_sum.result = omega (arith, ints) in
    rw same (is_fractional c.args.problem.now.schema.now c.args.problem.now.constraints.now c.args.problem.now.query.now c.args.problem.now.cells.now.tree.nodes c.requires.posed.formed c.requires.posed.limited c.requires.posed.found.tree c.args.extreme c.args.picks.now c.requires.picked
    c.in_ok-rows.rows c.in_ok-sums.sums c.args.seen.now.count c.seen_sum.result c.in_ok-rows.ensures.program (rw c.requires.keyed at c.in_ok-sums.ensures.program) c.requires.few_seen c.seen_sum.ensures.small c.seen_sum.ensures.none)
