use Rattle.std.proofs.Common.{◌≡◌, length, ap, subst, sym, ◌∙◌, arith}
use Rattle.std.proofs.lemmas.List.{with_items_is}
use Rattle.pc_simplex_tableau.specs.Tableau.{Tableau, TableauRow}
use Rattle.pc_simplex_short.specs.Short.{spelled}
use Rattle.pc_simplex_short.specs.Kept.{IsShort, IsShortAim}
use Rattle.pc_simplex_short.proofs.Fits.{freed_aim_fits}
use Rattle.pc_simplex_short.proofs.ShortPivots.{after_freeing}
use Rattle.pc_simplex_short.proofs.tableau.ShortTableau.free_aim.Goals as goal

pub returns-clause-freed : goal.returns-clause-freed
returns-clause-freed c true_result =
    let t = c.self.inside in
    let f = c.args.setting.now in
    let aim : length c.free.new.aim ≡ t.aim.len = omega (arith, c.free.auto.aim, c.as_mut_slice.ensures.len, t.aim.ok.0) in
    let numbers = c.as_slice-2.ensures.value ∙ ap (λ (row : TableauRow). row.numbers) c.row.view_is in
    ap (λ a. spelled f (record { rows = t.rows.items; turned = t.turned.items; aim = a; weight = c.free.new.weight })) (with_items_is t.aim c.free.new.aim aim)
    ∙ after_freeing f c.requires.setting _ c.args.self.now c.self.view_is c.requires.short c.args.column c.args.at c.requires.column c.requires.at
    c.index-row.result.now c.index-row.ensures c.as_slice.result.now c.as_slice.ensures.value c.as_slice-2.result.now numbers
    c.as_mut_slice.result.now c.as_mut_slice.ensures.value c.free.new.weight c.free.new.aim (c.free.ensures.aim true_result) (c.free.ensures.weight true_result)

pub returns-clause-short : goal.returns-clause-short
returns-clause-short c true_result =
    let t = c.self.inside in
    let f = c.args.setting.now in
    let aim : length c.free.new.aim ≡ t.aim.len = omega (arith, c.free.auto.aim, c.as_mut_slice.ensures.len, t.aim.ok.0) in
    let before = subst (λ (t : Tableau). IsShort f t) (sym c.self.view_is) c.requires.short in
    record {
      rows = before.rows;
      turned = before.turned;
      aim = subst (IsShortAim f c.free.new.weight) (sym (with_items_is t.aim c.free.new.aim aim)) (c.free.ensures.short true_result);
    }

pub returns-clause-fits : goal.returns-clause-fits
returns-clause-fits c = freed_aim_fits c.args.setting.now c.args.self.now c.requires.setting c.requires.short c.args.column c.args.at c.requires.at
