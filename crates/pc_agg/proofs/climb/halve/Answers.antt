use Rattle.std.proofs.Common.{◌+◌, ◌-◌, ◌/◌, All, refl, sym, subst, arith}
use Rattle.pc_agg.specs.Climbing.{IsHalved, IsSureHalf}
use Rattle.pc_agg_search.specs.Problem.{setting_of}
use Rattle.pc_agg_search.specs.Wants.{IsMet, IsProbed, IsSure}
use Rattle.pc_agg.proofs.Halving.{all_met, is_halved, is_sure_half}
use Rattle.pc_agg.proofs.climb.halve.Goals as goal

pub probe-requires-clause-met : goal.probe-requires-clause-met
probe-requires-clause-met c =
    let u = setting_of c.args.problem.now in
    let span = c.args.span in
    let middle = span.from + (span.to - span.from) / 2 in
    subst (λ p. All (IsMet p) span.found) (sym c.in_ok-program.ensures.program)
    (all_met u c.args.problem.now.nodes c.args.ladder.now c.args.want middle span.found c.requires.lawful)

pub returns-clause-halved : goal.returns-clause-halved
returns-clause-halved c = λ found is.
    let u = setting_of c.args.problem.now in
    let span = c.args.span in
    let middle = span.from + (span.to - span.from) / 2 in
    let probed = subst (λ p. IsProbed p c.args.want c.args.problem.now.nodes span.found c.in_ok-probed.probed) c.in_ok-program.ensures.program c.in_ok-probed.ensures.probed in
    subst (IsHalved u c.args.problem.now.nodes c.args.ladder.now c.args.want found span) (sym c.narrowed.ensures)
    (is_halved u c.args.problem.now.nodes c.args.ladder.now c.args.want found span middle is (omega arith) (omega (arith, c.requires.several)) refl c.in_ok-probed.probed probed)

pub returns-clause-nested : goal.returns-clause-nested
returns-clause-nested c = λ nested sure.
    let u = setting_of c.args.problem.now in
    let span = c.args.span in
    let middle = span.from + (span.to - span.from) / 2 in
    let probed = subst (λ p. IsProbed p c.args.want c.args.problem.now.nodes span.found c.in_ok-probed.probed) c.in_ok-program.ensures.program c.in_ok-probed.ensures.probed in
    let sure_probe = subst (λ p. IsSure p c.args.want c.in_ok-probed.probed) c.in_ok-program.ensures.program (c.in_ok-probed.ensures.nested (c.in_ok-program.ensures.nested nested)) in
    subst (IsSureHalf u c.args.ladder.now c.args.want) (sym c.narrowed.ensures)
    (is_sure_half u c.args.problem.now.nodes c.args.ladder.now c.args.want span middle c.in_ok-probed.probed probed sure_probe sure)

pub returns-clause-tested : goal.returns-clause-tested
returns-clause-tested c =
    let span = c.args.span in
    let probed = subst (λ p. IsProbed p c.args.want c.args.problem.now.nodes span.found c.in_ok-probed.probed) c.in_ok-program.ensures.program c.in_ok-probed.ensures.probed in
    (c.in_ok-probed.probed, probed, c.narrowed.ensures)
