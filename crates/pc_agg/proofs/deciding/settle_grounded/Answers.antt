use Rattle.std.proofs.Common.{length, None, ap, subst, ◌∙◌}
use Rattle.std.proofs.lemmas.Slice.Zip.{AllZip-long}
use Rattle.pc_agg_search.specs.declared.extreme.Extreme.TheVariants.{Low}
use Rattle.pc_agg_search.specs.Targets.{IsPickIn}
use Rattle.pc_agg.specs.Extremes.{HasLawful}
use Rattle.pc_agg_search.specs.Problem.{setting_of}
use Rattle.pc_agg.proofs.Filling.{rows_of_cells}
use Rattle.pc_agg.proofs.ShownRows.{rows_shown}
use Rattle.pc_agg.proofs.SettledGrounds.{sized_found, settled_always, settled_open, ok_all}
use Rattle.pc_agg.proofs.deciding.settle_grounded.Goals as goal

pub relation_from-requires : goal.relation_from-requires
relation_from-requires c =
    let u = setting_of c.args.problem.now in
    let rows = rows_of_cells c.args.problem.now.schema.now c.args.problem.now.constraints.now c.args.problem.now.query.now c.args.problem.now.cells.now.tree.nodes c.requires.posed.formed c.requires.posed.found.tree c.args.problem.now.cells.now.cells c.in_ok-picks.picks c.requires.posed.found.listed c.in_ok-picks.ensures in
    record { sized = rw (c.as_slice-picks.ensures, c.as_slice.ensures) (sized_found u c.in_ok-picks.picks c.in-Always.found rows (subst (HasLawful u) c.in-Always.is c.requires.grounded)) }

pub returns-in-Always : goal.returns-in-Always
returns-in-Always c =
    let u = setting_of c.args.problem.now in
    let rows = rows_of_cells c.args.problem.now.schema.now c.args.problem.now.constraints.now c.args.problem.now.query.now c.args.problem.now.cells.now.tree.nodes c.requires.posed.formed c.requires.posed.found.tree c.args.problem.now.cells.now.cells c.in_ok-picks.picks c.requires.posed.found.listed c.in_ok-picks.ensures in
    let shown = rows_shown u c.requires.posed.formed c.requires.posed.found.tree c.args.problem.now.cells.now.cells c.in_ok-picks.picks c.requires.posed.found.listed c.in_ok-picks.ensures in
    settled_always u c.args.grounded c.in-Always.tree c.in_ok-picks.picks c.as_slice-picks.result.now c.in-Always.found c.as_slice.result.now c.in_ok-relation-in-Always.relation c.in-Always.is rows shown c.as_slice-picks.ensures c.as_slice.ensures
    c.in_ok-relation-in-Always.ensures

pub settle_found-requires-clause-lawful : goal.settle_found-requires-clause-lawful
settle_found-requires-clause-lawful c = subst (HasLawful (setting_of c.args.problem.now)) c.in-Open.is c.requires.grounded

pub settle_found-requires-clause-counted : goal.settle_found-requires-clause-counted
settle_found-requires-clause-counted c =
    let u = setting_of c.args.problem.now in
    let rows = rows_of_cells c.args.problem.now.schema.now c.args.problem.now.constraints.now c.args.problem.now.query.now c.args.problem.now.cells.now.tree.nodes c.requires.posed.formed c.requires.posed.found.tree c.args.problem.now.cells.now.cells c.in_ok-picks.picks c.requires.posed.found.listed c.in_ok-picks.ensures in
    rw c.as_slice-picks.ensures (sized_found u c.in_ok-picks.picks c.in-Open.grounds.found rows (subst (HasLawful u) c.in-Open.is c.requires.grounded))

pub settle_found-requires-clause-sized : goal.settle_found-requires-clause-sized
settle_found-requires-clause-sized c = ap length c.as_slice-picks.ensures ∙ AllZip-long (IsPickIn None Low) c.args.problem.now.cells.now.cells c.in_ok-picks.picks c.in_ok-picks.ensures

pub returns : goal.returns
returns c =
    let u = setting_of c.args.problem.now in
    let rows = rows_of_cells c.args.problem.now.schema.now c.args.problem.now.constraints.now c.args.problem.now.query.now c.args.problem.now.cells.now.tree.nodes c.requires.posed.formed c.requires.posed.found.tree c.args.problem.now.cells.now.cells c.in_ok-picks.picks c.requires.posed.found.listed c.in_ok-picks.ensures in
    let shown = rows_shown u c.requires.posed.formed c.requires.posed.found.tree c.args.problem.now.cells.now.cells c.in_ok-picks.picks c.requires.posed.found.listed c.in_ok-picks.ensures in
    ok_all c.settle_found.result _ _ _ _ c.settle_found.ensures.relation c.settle_found.ensures.lack c.settle_found.ensures.found
    (λ settled is from listed. settled_open u c.args.grounded c.in-Open.grounds c.in_ok-picks.picks c.as_slice-picks.result.now settled c.in-Open.is rows shown c.as_slice-picks.ensures is from listed)
