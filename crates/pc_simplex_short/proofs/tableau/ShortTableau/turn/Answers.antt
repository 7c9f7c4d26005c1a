use Rattle.std.proofs.Common.{◌≡◌, List, length, set, not, refl, ap, sym, ◌∙◌}
use Rattle.std.proofs.lemmas.List.{with_items_is}
use Rattle.pc_simplex_tableau.specs.Tableau.{TableauRow, Tableau}
use Rattle.pc_simplex_short.specs.Short.{spelled}
use Rattle.pc_simplex_short.proofs.Flips.{turned_from}
use Rattle.pc_simplex_short.proofs.Given.{turn_given}
use Rattle.pc_simplex_short.proofs.tableau.ShortTableau.turn.Goals as goal

pub returns-clause-turned : goal.returns-clause-turned
returns-clause-turned c true_result =
    let f = c.args.setting.now in
    let s = c.self.inside in
    let t : Tableau = record { rows = s.rows.items; turned = s.turned.items; aim = s.aim.items; weight = s.weight } in
    let rows = c.turn_all.new.rows in
    let flag = c.index.result.now in
    let long : length rows ≡ s.rows.len = c.turn_all.auto.rows ∙ ap length c.as_mut_slice.ensures.value ∙ sym s.rows.ok.0 in
    ap (λ (rows : List TableauRow). spelled f (record { rows = rows; turned = set t.turned c.args.column (not flag); aim = t.aim; weight = t.weight }))
    (with_items_is s.rows rows long)
    ∙ turned_from f t c.args.self.now c.args.column c.args.range rows c.as_mut_slice.result.now c.as_slice.result.now flag c.self.view_is
    (record {
      made = c.if-not-turn_all.ensures.turned refl;
      old_is = c.as_mut_slice.ensures.value;
      seen_is = c.as_slice.ensures.value;
      flag_is = c.index.ensures;
    })
    c.requires.setting c.requires.column c.requires.short

pub returns-then-not-turn_all-clause-given : goal.returns-then-not-turn_all-clause-given
returns-then-not-turn_all-clause-given c held =
    let f = c.args.setting.now in
    let s = c.self.inside in
    let t : Tableau = record { rows = s.rows.items; turned = s.turned.items; aim = s.aim.items; weight = s.weight } in
    c.if-not-turn_all.ensures.given (turn_given f t c.args.self.now c.args.column c.args.range c.as_mut_slice.result.now c.as_slice.result.now c.self.view_is
    c.as_mut_slice.ensures.value c.as_slice.ensures.value c.requires.setting c.requires.column c.requires.short held)
