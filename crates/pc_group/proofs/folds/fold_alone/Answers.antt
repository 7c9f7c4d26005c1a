use Rattle.std.proofs.Common.{◌≡◌, [], ◌∷◌, rules}
use Rattle.pc_group.proofs.Folded.{alone_fits}
use Rattle.pc_group.proofs.folds.fold_alone.Goals as goal

pub returns-clause-fit : goal.returns-clause-fit
returns-clause-fit c =
    let pushed : c.push.new.self ≡ c.fold.result ∷ [] = search rules in
    rw pushed (alone_fits c.args.schema.now c.args.query.now c.requires.ungrouped c.args.rows.now c.fold.result c.requires.well_formed c.requires.seen c.fold.ensures.folded c.fold.ensures.few)
