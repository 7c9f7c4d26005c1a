use Rattle.std.proofs.Common.{sym, ◌∙◌, arith}
use Rattle.pc_run_words.proofs.Digits.{no_number}
use Rattle.pc_run_words.proofs.number.number_of.Goals as goal

pub returns-in_default-clause-spells : goal.returns-in_default-clause-spells
returns-in_default-clause-spells c =
    let digits = rw c.as_bytes.ensures.value at (sym c.are_digits.ensures ∙ c.if-not-are_digits.false) in
    sym (no_number c.args.least c.args.most c.args.word.now c.in_default.field-0 (omega (arith, c.ranges.most)) digits c.in_default.ensures.value.0)
