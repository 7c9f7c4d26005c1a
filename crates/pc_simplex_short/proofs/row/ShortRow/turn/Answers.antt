use Rattle.std.proofs.Common.{◌∙◌, ap, arith}
use Rattle.pc_simplex_tableau.specs.Tableau.{TableauRow}
use Rattle.pc_simplex_short.specs.Short.{ShortSetting, entry}
use Rattle.pc_simplex_short.proofs.Given.{value_small}
use Rattle.pc_simplex_short.proofs.Words.{passed_word}
use Rattle.pc_simplex_short.proofs.row.ShortRow.turn.Goals as goal

pub returns-clause-given : goal.returns-clause-given
returns-clause-given c small =
    let f = c.args.setting.now in
    let numbers = ap (λ (row : TableauRow). row.numbers) c.self.view_is in
    let own = c.entry-entry.ensures in
    let value = own.value ∙ ap (λ l. entry f c.args.turned.now l c.args.column) (c.as_slice.ensures.value ∙ numbers) in
    let at = ap (λ (g : ShortSetting). g.constraints) c.setting.view_is in
    let given = rw (passed_word c.entry-entry.result (omega (arith, own.small)), value, c.as_mut_slice.ensures.value ∙ numbers, at) at c.turn_numbers.ensures.given in
    given (value_small f c.args.turned.now c.args.column c.args.range c.args.self.now c.requires.short.numbers small)
