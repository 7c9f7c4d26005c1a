use Rattle.std.proofs.Common.{ap, sym, ◌∙◌, arith}
use Rattle.pc_simplex_tableau.specs.Tableau.{TableauRow}
use Rattle.pc_simplex_short.proofs.Spelled.{at-spelled}
use Rattle.pc_simplex_short.proofs.Words.{FitsWord, passed_word}
use Rattle.pc_simplex_short.proofs.limit.entry_of.Goals as goal

pub returns-clause-value : goal.returns-clause-value
returns-clause-value c =
    let f = c.args.setting.now in
    let numbers = c.as_slice.ensures.value ∙ ap (λ (r : TableauRow). r.numbers) c.row.view_is in
    let fits : FitsWord c.entry.result = omega (arith, c.entry.ensures.small) in
    let value = rw numbers at c.entry.ensures.value in
    passed_word c.entry.result fits ∙ value ∙ sym (at-spelled f c.args.turned.now c.args.row.now.numbers c.args.column c.requires.column)
