use Rattle.std.proofs.Common.{◌≡◌, get_or, ap, sym, ◌∙◌, arith}
use Rattle.std.proofs.lemmas.List.{get_or_default}
use Rattle.pc_program_bound.specs.Sums.{int_at}
use Rattle.pc_simplex_tableau.specs.Tableau.{TableauRow, Tableau, no_row, row_at}
use Rattle.pc_simplex_short.proofs.Spelled.{row_at-spelled, value-spelled}
use Rattle.pc_simplex_short.proofs.Words.{FitsWord, passed_word}
use Rattle.pc_simplex_short.proofs.read.value_at.Goals as goal

pub returns : goal.returns
returns c =
    let f = c.args.setting.now in
    let t = c.args.tableau.now in
    let row = c.index-row.result.now in
    let fits : FitsWord c.value_of.result = omega (arith, c.value_of.ensures.small) in
    let same = ap (λ (s : Tableau). s.rows) c.tableau.view_is in
    let row_is : row ≡ row_at t c.args.at = c.index-row.ensures ∙ ap (λ xs. get_or xs c.args.at row) same ∙ get_or_default t.rows c.args.at row no_row c.requires.at in
    passed_word c.value_of.result fits ∙ c.value_of.ensures.value
    ∙ ap (λ (r : TableauRow). int_at r.numbers f.constraints) row_is
    ∙ sym (value-spelled f t.turned (row_at t c.args.at).numbers)
    ∙ sym (ap (λ (r : TableauRow). int_at r.numbers f.columns.count) (row_at-spelled f t c.args.at c.requires.at))
