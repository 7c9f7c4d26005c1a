use Rattle.std.proofs.Common.{◌≡◌, length, refl, ap, ap₂, subst, sym, ◌∙◌, arith, All}
use Rattle.std.proofs.lemmas.List.{with_items_is}
use Rattle.pc_simplex_tableau.specs.Tableau.{Tableau, TableauRow}
use Rattle.pc_simplex_short.specs.Short.{spelled}
use Rattle.pc_simplex_short.specs.Kept.{IsShort, IsShortAim, IsShortRow}
use Rattle.pc_simplex_short.proofs.ShortPivots.{after_pivot, pivot_rows_given}
use Rattle.pc_simplex_short.proofs.tableau.ShortTableau.pivot.Goals as goal

pub returns-clause-pivoted : goal.returns-clause-pivoted
returns-clause-pivoted c true_result =
    let t = c.self.inside in
    let f = c.args.setting.now in
    let rows : length c.pivot.new.rows ≡ t.rows.len = omega (arith, c.pivot.auto.rows, c.as_mut_slice-2.ensures.len, t.rows.ok.0) in
    let aim : length c.free.new.aim ≡ t.aim.len = omega (arith, c.free.auto.aim, c.as_mut_slice.ensures.len, t.aim.ok.0) in
    let numbers = c.as_slice-2.ensures.value ∙ ap (λ (row : TableauRow). row.numbers) c.row.view_is in
    ap₂ (λ r a. spelled f (record { rows = r; turned = t.turned.items; aim = a; weight = c.free.new.weight }))
    (with_items_is t.rows c.pivot.new.rows rows) (with_items_is t.aim c.free.new.aim aim)
    ∙ after_pivot f c.requires.setting _ c.args.self.now c.self.view_is c.requires.short c.args.column c.args.at c.requires.column c.requires.at
    c.index-row.result.now c.index-row.ensures c.as_slice.result.now c.as_slice.ensures.value c.as_slice-2.result.now numbers
    c.as_mut_slice.result.now c.as_mut_slice.ensures.value c.free.new.weight c.free.new.aim (c.if-not-free.ensures.aim refl) (c.if-not-free.ensures.weight refl)
    c.as_slice-3.result.now c.as_mut_slice-2.result.now c.pivot.new.rows c.as_slice-3.ensures.value c.as_mut_slice-2.ensures.value
    (c.pivot.ensures.pivoted true_result)

pub returns-clause-short : goal.returns-clause-short
returns-clause-short c true_result =
    let t = c.self.inside in
    let f = c.args.setting.now in
    let rows : length c.pivot.new.rows ≡ t.rows.len = omega (arith, c.pivot.auto.rows, c.as_mut_slice-2.ensures.len, t.rows.ok.0) in
    let aim : length c.free.new.aim ≡ t.aim.len = omega (arith, c.free.auto.aim, c.as_mut_slice.ensures.len, t.aim.ok.0) in
    let before = subst (λ (t : Tableau). IsShort f t) (sym c.self.view_is) c.requires.short in
    record {
      rows = subst (All (IsShortRow f)) (sym (with_items_is t.rows c.pivot.new.rows rows)) (c.pivot.ensures.short true_result);
      turned = before.turned;
      aim = subst (IsShortAim f c.free.new.weight) (sym (with_items_is t.aim c.free.new.aim aim)) (c.if-not-free.ensures.short refl);
    }

pub returns-clause-given : goal.returns-clause-given
returns-clause-given c held =
    let t = c.self.inside in
    let f = c.args.setting.now in
    let numbers = c.as_slice-2.ensures.value ∙ ap (λ (row : TableauRow). row.numbers) c.row.view_is in
    c.pivot.ensures.given (pivot_rows_given f c.requires.setting _ c.args.self.now c.self.view_is c.requires.short c.args.column c.args.at c.requires.column c.requires.at
    c.index-row.result.now c.index-row.ensures c.as_slice.result.now c.as_slice.ensures.value c.as_slice-2.result.now numbers
    c.as_mut_slice.result.now c.as_mut_slice.ensures.value c.free.new.weight c.free.new.aim (c.if-not-free.ensures.aim refl) (c.if-not-free.ensures.weight refl)
    c.as_slice-3.result.now c.as_mut_slice-2.result.now c.as_slice-3.ensures.value c.as_mut_slice-2.ensures.value held)
