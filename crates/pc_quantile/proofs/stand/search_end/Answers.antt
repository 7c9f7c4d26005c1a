use Rattle.pc_quantile.proofs.Standing.{some_rung, stood_at, stood_surely}
use Rattle.pc_quantile.specs.Measure.{cells_for}
use Rattle.pc_quantile.proofs.stand.search_end.Goals as goal

pub climb-requires-clause-some : goal.climb-requires-clause-some
climb-requires-clause-some c =
    let m = c.args.measure.now in
    some_rung (cells_for m) m.seen.now c.args.extreme c.in_ok-rungs.rungs c.in_ok-rungs.ensures c.requires.some

pub returns-in_ok-stand-in-At-clause-stood : goal.returns-in_ok-stand-in-At-clause-stood
returns-in_ok-stand-in-At-clause-stood c =
    stood_at c.args.measure.now c.args.extreme c.in_ok-rungs.rungs c.in_ok-rungs.ensures c.args.found c.in-At.standing (rw c.in-At.is at c.in_ok-climbed.ensures.climbed) c.in_ok-keys.field-0.picks c.in_ok-keys.ensures.picks
    c.in_ok-stand-in-At.stand c.in_ok-stand-in-At.ensures.stood c.requires.doubt

pub returns-in_ok-stand-in-At-clause-nested : goal.returns-in_ok-stand-in-At-clause-nested
returns-in_ok-stand-in-At-clause-nested c nested found =
    stood_surely c.args.measure.now c.args.extreme c.in_ok-rungs.rungs c.in_ok-rungs.ensures c.args.found c.in-At.standing (rw c.in-At.is at c.in_ok-climbed.ensures.climbed) c.in_ok-keys.field-0.picks c.in_ok-keys.ensures.picks
    c.in_ok-stand-in-At.stand c.in_ok-stand-in-At.ensures.stood found (rw c.in-At.is at (c.in_ok-climbed.ensures.nested nested))
