use Rattle.std.proofs.Common.{◌≡◌, ◌<◌, length, get_or, ap, ◌∙◌, arith}
use Rattle.std.specs.Prelude.{vec_len}
use Rattle.std.proofs.lemmas.List.{get_or_default}
use Rattle.pc_simplex_tableau.specs.Tableau.{Tableau, no_row}
use Rattle.pc_simplex_tableau.proofs.Deciding.{least_start, least_more}
use Rattle.pc_simplex_tableau.proofs.choice.deciding.Goals as goal

pub loop-at-init : goal.loop-at-init
loop-at-init c =
    least_start c.args.columns.now c.args.column c.args.tableau.now c.own_limit-best.result (omega (arith, c.requires.column, c.requires.sized.ranges)) c.own_limit-best.ensures.value c.own_limit-best.ensures.sound

pub loop-at-preserved : goal.loop-at-preserved
loop-at-preserved c =
    let l = c.loop-at in
    let rows = c.args.tableau.now.rows in
    let row = c.index.result.now in
    let full : vec_len c.tableau.inside.rows ≡ length c.tableau.inside.rows.items = omega (arith, c.tableau.inside.rows.ok) in
    let same = ap (λ (t : Tableau). t.rows) c.tableau.view_is in
    let counted = ap length same in
    let within : l.at < length rows = omega (arith, c.loop-at-test.true, c.len-at-end.ensures, full, counted) in
    let row_is = c.index.ensures ∙ ap (λ xs. get_or xs l.at row) same ∙ get_or_default rows l.at row no_row within in
    least_more c.args.columns.now c.args.column c.args.tableau.now l.at l.best row within row_is c.requires.sized l.invariant
    c.in-Some.limit c.in-Some.ensures.value.0 c.in-Some.ensures.value.1 c.in-Some.ensures.sound
