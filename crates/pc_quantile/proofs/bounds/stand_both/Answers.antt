use Rattle.pc_quantile.specs.Measure.{cells_for, has_numbers}
use Rattle.pc_quantile.proofs.Pairs.{chosen_first, doubt_first, lawful_first, pair_from, pair_surely}
use Rattle.pc_quantile.proofs.bounds.stand_both.Goals as goal

pub search_end-requires-2-clause-lawful : goal.search_end-requires-2-clause-lawful
search_end-requires-2-clause-lawful c =
    lawful_first (cells_for c.args.measure.now) c.args.measure.now.problem.nodes c.args.measure.now.seen.now c.args.measure.now.asked.now c.args.found c.in-At.on.stand c.in-At.on.found
    (rw c.in-At.is at c.in_ok-stood.ensures.stood) c.requires.lawful

pub search_end-requires-2-clause-doubt : goal.search_end-requires-2-clause-doubt
search_end-requires-2-clause-doubt c =
    doubt_first (cells_for c.args.measure.now) c.args.measure.now.problem.nodes c.args.measure.now.seen.now c.args.measure.now.asked.now c.args.found c.in-At.on.stand c.in-At.on.found
    (rw c.in-At.is at c.in_ok-stood.ensures.stood) (has_numbers c.args.measure.now.seen.now) c.requires.doubt

pub returns-clause-pair : goal.returns-clause-pair
returns-clause-pair c =
    pair_from (cells_for c.args.measure.now) c.args.measure.now.problem.nodes c.args.measure.now.seen.now c.args.measure.now.asked.now c.args.found c.in-At.on.stand c.in-At.on.found
    (rw c.in-At.is at c.in_ok-stood.ensures.stood) c.in_ok-stood-2.stood c.pair_at.result c.in_ok-stood-2.ensures.stood c.pair_at.ensures

pub returns-clause-nested : goal.returns-clause-nested
returns-clause-nested c nested found =
    let low_at = (rw c.in-At.is at c.in_ok-stood.ensures.stood) in
    let low_some = (rw c.in-At.is at (c.in_ok-stood.ensures.nested nested found)) in
    let high_some = c.in_ok-stood-2.ensures.nested nested
    (chosen_first (cells_for c.args.measure.now) c.args.measure.now.problem.nodes c.args.measure.now.seen.now c.args.measure.now.asked.now c.args.found c.in-At.on.stand c.in-At.on.found low_at
    (has_numbers c.args.measure.now.seen.now) found) in
    pair_surely (cells_for c.args.measure.now) c.args.measure.now.problem.nodes c.args.measure.now.seen.now c.args.measure.now.asked.now c.args.found c.in-At.on.stand c.in-At.on.found low_at c.in_ok-stood-2.stood
    c.pair_at.result c.in_ok-stood-2.ensures.stood c.pair_at.ensures low_some high_some
