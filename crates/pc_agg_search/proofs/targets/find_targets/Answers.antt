use Rattle.std.proofs.lemmas.Result.{IfOk-weaker}
use Rattle.pc_agg_search.specs.Problem.{setting_of}
use Rattle.pc_agg_search.proofs.CellGains.{gains_are, picks_are}
use Rattle.pc_agg_search.proofs.targets.find_targets.Goals as goal

pub returns-clause-gains : goal.returns-clause-gains
returns-clause-gains c =
    IfOk-weaker c.targets_of.result _ _
    (λ found known.
    gains_are (setting_of c.args.problem.now) c.args.extreme c.args.problem.now.query.now.agg c.requires.has_value c.requires.query.measured
    c.args.problem.now.cells.now.cells found.gains c.requires.posed.found.listed known.gained)
    c.targets_of.ensures

pub returns-clause-picks : goal.returns-clause-picks
returns-clause-picks c =
    IfOk-weaker c.targets_of.result _ _
    (λ found known.
    picks_are (setting_of c.args.problem.now) c.args.extreme c.args.problem.now.query.now.agg c.requires.has_value c.requires.query.measured c.requires.posed.formed c.requires.posed.found.tree
    c.args.problem.now.cells.now.cells found.picks c.requires.posed.found.listed known.picked)
    c.targets_of.ensures
