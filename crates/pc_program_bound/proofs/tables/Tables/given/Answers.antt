use Rattle.std.proofs.Common.{◌∙◌, refl}
use Rattle.pc_program_bound.proofs.SetSums.{five_kept, five_fit, five_small}
use Rattle.pc_program_bound.proofs.tables.Tables.given.Goals as goal

pub overflow_add-result-4 : goal.overflow_add-result-4
overflow_add-result-4 c = five_fit c.at.result c.at-2.result c.at-3.result c.at-4.result c.at-5.result c.at.ensures.small c.at-2.ensures.small c.at-3.ensures.small c.at-4.ensures.small c.at-5.ensures.small

pub returns-clause-value : goal.returns-clause-value
returns-clause-value c =
    five_kept c.at.result c.at-2.result c.at-3.result c.at-4.result c.at-5.result c.at.ensures.small c.at-2.ensures.small c.at-3.ensures.small c.at-4.ensures.small c.at-5.ensures.small
    ∙ rw (c.at.ensures.value, c.at-2.ensures.value, c.at-3.ensures.value, c.at-4.ensures.value, c.at-5.ensures.value) refl

pub returns-clause-small : goal.returns-clause-small
returns-clause-small c = five_small c.at.result c.at-2.result c.at-3.result c.at-4.result c.at-5.result c.at.ensures.small c.at-2.ensures.small c.at-3.ensures.small c.at-4.ensures.small c.at-5.ensures.small
