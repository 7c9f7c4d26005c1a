use Rattle.std.proofs.Common.{All, sym, subst}
use Rattle.pc_proof.specs.Setting.{on_chosen}
use Rattle.pc_proof.specs.Table.{one}
use Rattle.pc_agg_search.specs.Wants.{want_for}
use Rattle.pc_agg_search.specs.Problem.{setting_of}
use Rattle.pc_agg_search.specs.Wants.{IsMet}
use Rattle.pc_agg.proofs.Grounding.{probed_empty, most_probed, most_sure, most_none, most_always, most_open, most_surely}
use Rattle.pc_agg.proofs.Lawful.{lawful_met}
use Rattle.pc_agg.proofs.grounds.ground_most.Goals as goal

pub probe_once-requires-clause-met : goal.probe_once-requires-clause-met
probe_once-requires-clause-met c =
    subst (λ p. All (IsMet p) c.args.found) (sym c.in_ok-most.ensures.program)
    (lawful_met (setting_of c.args.problem.now) (on_chosen one) c.args.found c.requires.lawful)

pub returns-in-Empty-clause-grounded : goal.returns-in-Empty-clause-grounded
returns-in-Empty-clause-grounded c =
    let u = setting_of c.args.problem.now in
    let probed =
    most_probed u c.args.observed c.args.problem.now.nodes c.args.found c.in_ok-verdict.field-0 c.in_ok-most.most c.want_for-want.result c.in_ok-most.ensures.program c.want_for-want.ensures c.in_ok-verdict.ensures.probed in
    let void = probed_empty u (on_chosen one) (want_for c.args.observed) c.args.problem.now.nodes c.args.found c.in_ok-verdict.field-0 probed c.in-Empty.tree c.in-Empty.is in
    (void.shows, void.small)

pub returns-in-Short-clause-grounded : goal.returns-in-Short-clause-grounded
returns-in-Short-clause-grounded c =
    let u = setting_of c.args.problem.now in
    let probed =
    most_probed u c.args.observed c.args.problem.now.nodes c.args.found c.in_ok-verdict.field-0 c.in_ok-most.most c.want_for-want.result c.in_ok-most.ensures.program c.want_for-want.ensures c.in_ok-verdict.ensures.probed in
    let void = most_none u c.args.observed c.args.problem.now.nodes c.args.found c.requires.lawful c.requires.totals c.in_ok-verdict.field-0 probed c.in-Short.tree c.in-Short.is c.if-observed.true in
    (void.shows, void.small)

pub returns-in-Short-2-clause-grounded : goal.returns-in-Short-2-clause-grounded
returns-in-Short-2-clause-grounded c =
    let u = setting_of c.args.problem.now in
    let probed =
    most_probed u c.args.observed c.args.problem.now.nodes c.args.found c.in_ok-verdict.field-0 c.in_ok-most.most c.want_for-want.result c.in_ok-most.ensures.program c.want_for-want.ensures c.in_ok-verdict.ensures.probed in
    most_always u c.args.observed c.args.problem.now.nodes c.args.found c.requires.lawful c.requires.totals c.in_ok-verdict.field-0 probed c.in-Short.tree c.in-Short.is c.if-observed.false

pub returns-clause-grounded : goal.returns-clause-grounded
returns-clause-grounded c =
    let u = setting_of c.args.problem.now in
    let probed =
    most_probed u c.args.observed c.args.problem.now.nodes c.args.found c.in_ok-verdict.field-0 c.in_ok-most.most c.want_for-want.result c.in_ok-most.ensures.program c.want_for-want.ensures c.in_ok-verdict.ensures.probed in
    most_open u c.args.observed c.args.problem.now.nodes c.args.found c.requires.lawful c.requires.totals c.in_ok-verdict.field-0 probed c.args.lacking c.in-Open.is c.requires.some c.requires.lacking

pub returns-clause-nested : goal.returns-clause-nested
returns-clause-nested c = λ nested some lacks.
    let u = setting_of c.args.problem.now in
    let probed =
    most_probed u c.args.observed c.args.problem.now.nodes c.args.found c.in_ok-verdict.field-0 c.in_ok-most.most c.want_for-want.result c.in_ok-most.ensures.program c.want_for-want.ensures c.in_ok-verdict.ensures.probed in
    let sure =
    most_sure u c.args.observed c.in_ok-verdict.field-0 c.in_ok-most.most c.want_for-want.result c.in_ok-most.ensures.program c.want_for-want.ensures
    (c.in_ok-verdict.ensures.nested (c.in_ok-most.ensures.nested nested)) in
    most_surely u c.args.observed c.args.problem.now.nodes c.args.found c.requires.lawful c.requires.totals c.in_ok-verdict.field-0 probed c.args.lacking c.in-Open.is some lacks sure

pub returns-in-Short-2-clause-kept : goal.returns-in-Short-2-clause-kept
returns-in-Short-2-clause-kept c = (c.in_ok-verdict.ensures.probed.more, c.in_ok-verdict.ensures.probed.grown)

pub returns-clause-kept : goal.returns-clause-kept
returns-clause-kept c = (c.in_ok-verdict.ensures.probed.more, c.in_ok-verdict.ensures.probed.grown)
