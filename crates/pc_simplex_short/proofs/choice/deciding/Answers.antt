use Rattle.std.proofs.Common.{◌≡◌, ◌<◌, length, get_or, ap, sym, ◌∙◌, arith}
use Rattle.std.specs.Prelude.{vec_len}
use Rattle.std.proofs.lemmas.List.{get_or_default}
use Rattle.pc_simplex_tableau.specs.Tableau.{Tableau, no_row, with_row, does_limit_fit}
use Rattle.pc_simplex_tableau.proofs.Deciding.{least_start, least_more}
use Rattle.pc_simplex_short.specs.Short.{ShortSetting, spelled, spelled_row}
use Rattle.pc_simplex_short.proofs.Spelled.{row_at-spelled, rows-spelled}
use Rattle.pc_simplex_short.proofs.Fits.{spelled_sized, limit_fits_at}
use Rattle.pc_simplex_short.proofs.choice.deciding.Goals as goal

pub loop-at-init : goal.loop-at-init
loop-at-init c =
    let f = c.args.setting.now in
    let own = rw (ap (λ (g : ShortSetting). g.columns) c.setting.view_is) at c.own_limit-best.ensures.value in
    least_start f.columns c.args.column (spelled f c.args.tableau.now) c.own_limit-best.result (omega (arith, c.requires.column, c.requires.setting.ranges)) own c.own_limit-best.ensures.sound

pub loop-at-preserved : goal.loop-at-preserved
loop-at-preserved c =
    let l = c.loop-at in
    let f = c.args.setting.now in
    let t = c.args.tableau.now in
    let rows = t.rows in
    let row = c.index.result.now in
    let full : vec_len c.tableau.inside.rows ≡ length c.tableau.inside.rows.items = omega (arith, c.tableau.inside.rows.ok) in
    let same = ap (λ (s : Tableau). s.rows) c.tableau.view_is in
    let counted = ap length same in
    let within : l.at < length rows = omega (arith, c.loop-at-test.true, c.len-at-end.ensures, full, counted) in
    let row_is = c.index.ensures ∙ ap (λ xs. get_or xs l.at row) same ∙ get_or_default rows l.at row no_row within in
    let turned = c.as_slice.ensures.value ∙ ap (λ (s : Tableau). s.turned) c.tableau.view_is in
    let spelled_is = ap (spelled_row f t.turned) row_is ∙ sym (row_at-spelled f t l.at within) in
    let found = c.with_row-best.ensures.value ∙ ap (λ b. with_row f.columns c.args.column l.at (spelled_row f b row) l.best) turned in
    least_more f.columns c.args.column (spelled f t) l.at l.best (spelled_row f t.turned row) (rw (rows-spelled f t) within) spelled_is
    (spelled_sized f t c.requires.setting c.requires.short) l.invariant
    c.with_row-best.result (ap (does_limit_fit f.columns c.args.column) spelled_is ∙ limit_fits_at f t c.requires.setting c.requires.short c.args.column l.at within) found c.with_row-best.ensures.sound
