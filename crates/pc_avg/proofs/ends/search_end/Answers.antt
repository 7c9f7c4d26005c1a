use Rattle.pc_agg_search.specs.Problem.{setting_of}
use Rattle.pc_avg.proofs.ends.search_end.Goals as goal

pub end_on-requires-clause-side : goal.end_on-requires-clause-side
end_on-requires-clause-side c =
    (setting_of c.args.problem.now, c.args.seen.now, c.in_ok-side.ensures.side, c.requires.lawful)

pub returns-clause-end : goal.returns-clause-end
returns-clause-end c = c.end_on.ensures.end (setting_of c.args.problem.now) c.args.seen.now c.in_ok-side.ensures.side

pub returns-clause-nested : goal.returns-clause-nested
returns-clause-nested c nested =
    c.end_on.ensures.nested (setting_of c.args.problem.now) c.args.seen.now c.in_ok-side.ensures.side (c.in_ok-side.ensures.nested nested)
