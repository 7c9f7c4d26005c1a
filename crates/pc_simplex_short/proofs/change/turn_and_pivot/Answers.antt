use Rattle.std.proofs.Common.{refl, ap, ◌∙◌}
use Rattle.pc_simplex_tableau.specs.Tableau.{end_of, turned}
use Rattle.pc_simplex_short.specs.Short.{ShortSetting, spelled}
use Rattle.pc_simplex_short.proofs.Changing.{both_fit}
use Rattle.pc_simplex_short.proofs.change.turn_and_pivot.Goals as goal

pub returns-clause-fits : goal.returns-clause-fits
returns-clause-fits c true_result =
    let f = c.args.setting.now in
    let t = c.args.tableau.now in
    let after = c.turn.new.self in
    let range = c.end-range.ensures ∙ ap (λ (g : ShortSetting). end_of g.columns c.args.leaves) c.setting.view_is in
    let turned_is = c.if-not-turn.ensures.turned refl ∙ ap (λ u. turned f.columns c.args.leaves u (spelled f t)) range in
    both_fit f t c.requires.setting c.requires.short c.args.enters c.args.leaves c.args.at after turned_is (c.if-not-turn.ensures.short refl) c.requires.at
