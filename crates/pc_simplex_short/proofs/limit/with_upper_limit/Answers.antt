use Rattle.std.proofs.Common.{◌≡◌, Some, ap, sym, ◌∙◌, arith, to_z-of_z}
use Rattle.pc_num.proofs.Signed.{passed}
use Rattle.pc_simplex_tableau.specs.Tableau.{TableauRow, range_of}
use Rattle.pc_simplex_short.specs.Short.{spelled_row}
use Rattle.pc_simplex_short.proofs.Spelled.{value-spelled}
use Rattle.pc_simplex_short.proofs.Choosing.{with_upper_some}
use Rattle.pc_simplex_short.proofs.Words.{FitsWord, passed_word}
use Rattle.pc_simplex_short.proofs.limit.with_upper_limit.Goals as goal

pub returns-in-Some-clause-value : goal.returns-in-Some-clause-value
returns-in-Some-clause-value c column lt own_is =
    let f = c.args.setting.now in
    let row = spelled_row f c.args.turned.now c.args.row.now in
    let basic : c.row.inside.basic ≡ c.args.row.now.basic = ap (λ (r : TableauRow). r.basic) c.row.view_is in
    let basic_fits : FitsWord c.entry_of-basic.result = omega (arith, c.entry_of-basic.ensures.small) in
    let value_fits : FitsWord c.value_of.result = omega (arith, c.value_of.ensures.small) in
    let over = rw (passed_word c.entry_of-basic.result basic_fits, passed_word c.value_of.result value_fits) at c.room_above-over.ensures.value in
    let upper = rw (passed c.room_above-over.result c.room_above-over.ensures.fits, to_z-of_z c.ranges.own, over, basic) at c.with_upper.ensures.value in
    let entry = rw basic at c.entry_of-basic.ensures.value in
    let range : range_of f.columns c.args.row.now.basic ≡ Some c.in-Some.range = sym c.basic_range.ensures ∙ c.in-Some.is in
    upper ∙ with_upper_some f.columns column c.args.at row c.args.best c.args.own (sym own_is) c.in-Some.range c.entry_of-basic.result c.value_of.result range
    (sym entry) (value-spelled f c.args.turned.now c.args.row.now.numbers ∙ sym c.value_of.ensures.value)
