use Rattle.std.proofs.Common.{◌≡◌, true, refl, subst, ◌∙◌}
use Rattle.pc_simplex_tableau.specs.Tableau.{Limit, deciding, does_way_fit}
use Rattle.pc_simplex_short.specs.Short.{spelled}
use Rattle.pc_simplex_short.proofs.Changing.{step_fits}
use Rattle.pc_simplex_short.proofs.run.step.Goals as goal

pub returns-then-change-clause-fits : goal.returns-then-change-clause-fits
returns-then-change-clause-fits c =
    let f = c.args.setting.now in
    let t = c.args.tableau.now in
    let limit = c.limit.view_is ∙ c.deciding-limit.ensures.value in
    step_fits f t c.requires.setting c.requires.short c.args.enters 0 (deciding f.columns c.args.enters (spelled f t))
    (subst (λ (l : Limit). does_way_fit f.columns c.args.enters l.column l.way (spelled f t) ≡ true) limit (c.if-change.ensures.fits refl))
