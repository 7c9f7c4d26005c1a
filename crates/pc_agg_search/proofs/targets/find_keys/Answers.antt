use Rattle.std.proofs.lemmas.Result.{IfOk-weaker}
use Rattle.pc_model.specs.Accepted.{IsNumeric, IsColumnWhere}
use Rattle.pc_agg_search.specs.Problem.{setting_of}
use Rattle.pc_agg_search.proofs.CellKeys.{keys_are, ends_are}
use Rattle.pc_agg_search.proofs.targets.find_keys.Goals as goal

pub returns-clause-keys : goal.returns-clause-keys
returns-clause-keys c =
    IfOk-weaker c.targets_of.result _ _
    (λ found known.
    keys_are (setting_of c.args.problem.now) c.args.extreme (IsColumnWhere IsNumeric c.args.problem.now.schema.now) c.requires.numbers
    c.args.problem.now.cells.now.cells found.gains c.requires.posed.found.listed known.gained)
    c.targets_of.ensures

pub returns-clause-picks : goal.returns-clause-picks
returns-clause-picks c =
    IfOk-weaker c.targets_of.result _ _
    (λ found known.
    ends_are (setting_of c.args.problem.now) c.args.extreme (IsColumnWhere IsNumeric c.args.problem.now.schema.now) c.requires.numbers c.requires.posed.formed
    c.requires.posed.found.tree c.args.problem.now.cells.now.cells found.picks c.requires.posed.found.listed known.picked)
    c.targets_of.ensures
