use Rattle.std.proofs.Common.{◌≡◌, ap, sym, ◌∙◌, arith}
use Rattle.pc_simplex_tableau.specs.Tableau.{TableauRow}
use Rattle.pc_simplex_short.specs.Short.{spelled_row}
use Rattle.pc_simplex_short.proofs.Spelled.{value-spelled}
use Rattle.pc_simplex_short.proofs.Choosing.{with_row_lower, with_row_upper, with_row_none}
use Rattle.pc_simplex_short.proofs.Words.{FitsWord, passed_word}
use Rattle.pc_simplex_short.proofs.limit.with_row.Goals as goal

pub returns-then-own-gt0-clause-value : goal.returns-then-own-gt0-clause-value
returns-then-own-gt0-clause-value c =
    let f = c.args.setting.now in
    let row = spelled_row f c.args.turned.now c.args.row.now in
    let own_fits : FitsWord c.entry_of-own.result = omega (arith, c.entry_of-own.ensures.small) in
    let value_fits : FitsWord c.value_of.result = omega (arith, c.value_of.ensures.small) in
    let basic : c.row.inside.basic ≡ c.args.row.now.basic = ap (λ (r : TableauRow). r.basic) c.row.view_is in
    let above = rw (passed_word c.entry_of-own.result own_fits) at c.if-own-gt0.true in
    let lower = rw (passed_word c.value_of.result value_fits, passed_word c.entry_of-own.result own_fits, basic) at c.with_lower.ensures.value in
    lower ∙ with_row_lower f.columns c.args.column c.args.at row c.args.best c.entry_of-own.result (sym c.entry_of-own.ensures.value)
    c.value_of.result (value-spelled f c.args.turned.now c.args.row.now.numbers ∙ sym c.value_of.ensures.value) above

pub returns-then-own-lt0-clause-value : goal.returns-then-own-lt0-clause-value
returns-then-own-lt0-clause-value c =
    let f = c.args.setting.now in
    let row = spelled_row f c.args.turned.now c.args.row.now in
    let own_fits : FitsWord c.entry_of-own.result = omega (arith, c.entry_of-own.ensures.small) in
    let below = rw (passed_word c.entry_of-own.result own_fits) at c.if-own-gt0.false in
    let under = rw (passed_word c.entry_of-own.result own_fits) at c.if-own-lt0.true in
    let upper = rw (passed_word c.entry_of-own.result own_fits) at c.with_upper_limit.ensures.value in
    upper c.args.column c.requires.column c.entry_of-own.ensures.value
    ∙ with_row_upper f.columns c.args.column c.args.at row c.args.best c.entry_of-own.result (sym c.entry_of-own.ensures.value) below under

pub returns-clause-value : goal.returns-clause-value
returns-clause-value c =
    let f = c.args.setting.now in
    let row = spelled_row f c.args.turned.now c.args.row.now in
    let own_fits : FitsWord c.entry_of-own.result = omega (arith, c.entry_of-own.ensures.small) in
    let below = rw (passed_word c.entry_of-own.result own_fits) at c.if-own-gt0.false in
    let under = rw (passed_word c.entry_of-own.result own_fits) at c.if-own-lt0.false in
    with_row_none f.columns c.args.column c.args.at row c.args.best c.entry_of-own.result (sym c.entry_of-own.ensures.value) below under
