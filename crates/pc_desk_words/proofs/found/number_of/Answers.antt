use Rattle.std.proofs.Common.{◌∙◌, arith}
use Rattle.pc_desk_words.proofs.Numbers.{none_read, read_within}
use Rattle.pc_desk_words.proofs.found.number_of.Goals as goal

pub returns-in-Ok-clause-spells : goal.returns-in-Ok-clause-spells
returns-in-Ok-clause-spells c =
    c.within.ensures.tells ∙ read_within c.args.least c.args.most (omega (arith, c.ranges.most)) c.args.text.now c.in-Ok.number c.in-Ok.ensures.value.0

pub returns-in-Err-clause-spells : goal.returns-in-Err-clause-spells
returns-in-Err-clause-spells c = none_read c.args.least c.args.most (omega (arith, c.ranges.most)) c.args.text.now c.in-Err.ensures.value.0
