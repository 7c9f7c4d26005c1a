use Rattle.std.proofs.Common.{◌+◌, ◌-◌, ◌/◌, refl, sym, subst, arith}
use Rattle.pc_quantile.specs.Climbing.{IsHalved, IsSureHalf}
use Rattle.pc_quantile.specs.Measure.{cells_for}
use Rattle.pc_quantile.proofs.Halving.{is_halved, is_sure_half}
use Rattle.pc_quantile.proofs.climb.halve.Goals as goal

pub returns-clause-halved : goal.returns-clause-halved
returns-clause-halved c = λ found is.
    let m = c.args.measure.now in
    let ladder = c.args.ladder.now in
    let span = c.args.span in
    let middle = span.from + (span.to - span.from) / 2 in
    subst (IsHalved (cells_for m) m.problem.nodes m.seen.now ladder.extreme m.asked.now ladder.rungs found span) (sym c.halved_at.ensures)
    (is_halved (cells_for m) m.problem.nodes m.seen.now ladder.extreme m.asked.now ladder.rungs found span middle is (omega arith) (omega (arith, c.requires.several)) refl c.in_ok-probed.probed c.in_ok-probed.ensures.probed)

pub returns-clause-nested : goal.returns-clause-nested
returns-clause-nested c = λ nested sure.
    let m = c.args.measure.now in
    let ladder = c.args.ladder.now in
    let span = c.args.span in
    let middle = span.from + (span.to - span.from) / 2 in
    subst (IsSureHalf (cells_for m) m.seen.now ladder.extreme m.asked.now ladder.rungs) (sym c.halved_at.ensures)
    (is_sure_half (cells_for m) m.problem.nodes m.seen.now ladder.extreme m.asked.now ladder.rungs span middle c.in_ok-probed.probed c.in_ok-probed.ensures.probed (c.in_ok-probed.ensures.nested nested) sure)
