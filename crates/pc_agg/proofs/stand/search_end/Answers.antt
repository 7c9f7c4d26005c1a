use Rattle.std.proofs.Common.{sym}
use Rattle.pc_agg.proofs.Standing.{search_stood, search_surely}
use Rattle.pc_agg.proofs.stand.search_end.Goals as goal

pub returns-in_ok-on-in-At-clause-stood : goal.returns-in_ok-on-in-At-clause-stood
returns-in_ok-on-in-At-clause-stood c =
    search_stood c.args.problem.now.schema.now c.args.problem.now.constraints.now c.args.problem.now.query.now c.args.problem.now.cells.now.tree.nodes c.requires.posed.formed c.requires.posed.limited c.requires.posed.found.tree c.args.problem.now.nodes c.requires.posed.nodes.0 c.args.seen
    c.in_ok-ladder.ladder c.args.extreme c.args.test c.in_ok-ladder.ensures.extreme c.in_ok-ladder.ensures.test c.in_ok-ladder.ensures.rungs c.args.found c.requires.doubt c.in-At.standing
    (rw (c.want_at-want.ensures, c.is_some-observed.ensures, sym c.in_ok-ladder.ensures.test) at (rw c.in-At.is at c.in_ok-climbed.ensures.climbed)) c.requires.small_seen c.in_ok-ladder.ensures.keyed
    c.in_ok-gains.field-0.gains c.in_ok-gains.ensures.keys c.in_ok-gains.ensures.small c.in_ok-gains.field-0.picks c.in_ok-gains.ensures.picks c.in_ok-on-in-At.on.stand c.in_ok-on-in-At.on.found
    (rw c.is_some-observed.ensures at c.in_ok-on-in-At.ensures.stood)

pub returns-in_ok-on-in-At-clause-nested : goal.returns-in_ok-on-in-At-clause-nested
returns-in_ok-on-in-At-clause-nested c nested some found =
    search_surely c.args.problem.now.schema.now c.args.problem.now.constraints.now c.args.problem.now.query.now c.args.problem.now.cells.now.tree.nodes c.requires.posed.formed c.requires.posed.limited c.requires.posed.found.tree c.args.problem.now.nodes c.requires.posed.nodes.0 c.args.seen
    c.in_ok-ladder.ladder c.args.extreme c.args.test c.in_ok-ladder.ensures.extreme c.in_ok-ladder.ensures.test c.in_ok-ladder.ensures.rungs c.args.found c.requires.doubt c.in-At.standing
    (rw (c.want_at-want.ensures, c.is_some-observed.ensures, sym c.in_ok-ladder.ensures.test) at (rw c.in-At.is at c.in_ok-climbed.ensures.climbed)) c.requires.small_seen c.in_ok-ladder.ensures.keyed
    c.in_ok-gains.field-0.gains c.in_ok-gains.ensures.keys c.in_ok-gains.ensures.small c.in_ok-gains.field-0.picks c.in_ok-gains.ensures.picks c.in_ok-on-in-At.on.stand c.in_ok-on-in-At.on.found
    (rw c.is_some-observed.ensures at c.in_ok-on-in-At.ensures.stood) some c.requires.lawful found
    (rw (c.want_at-want.ensures, c.is_some-observed.ensures, sym c.in_ok-ladder.ensures.test) at (rw c.in-At.is at (c.in_ok-climbed.ensures.nested nested)))
