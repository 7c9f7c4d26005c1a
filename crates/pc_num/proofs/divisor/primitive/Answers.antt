use Rattle.std.proofs.Common.{FitsSigned, rules}
use Rattle.std.specs.Int.{w128}
use Rattle.std.proofs.lemmas.Int.{to_z-of_z}
use Rattle.pc_num.proofs.Rows.{divided_row, not_zeros, row_without_divisor}
use Rattle.pc_num.proofs.Signed.{positive, not_positive}
use Rattle.pc_num.proofs.divisor.primitive.Goals as goal

pub returns-then-divisor-gt0-clause-divided : goal.returns-then-divisor-gt0-clause-divided
returns-then-divisor-gt0-clause-divided c =
    let found = c.row_divisor-divisor.ensures in
    let fits : FitsSigned w128 c.row_divisor-divisor.result = search rules in
    divided_row c.args.row.now _ _ c.row_divisor-divisor.result found.sign (to_z-of_z w128 c.row_divisor-divisor.result fits) found.common c.divide.ensures

pub returns-then-divisor-gt0-clause-zeros : goal.returns-then-divisor-gt0-clause-zeros
returns-then-divisor-gt0-clause-zeros c zeros =
    let fits : FitsSigned w128 c.row_divisor-divisor.result = search rules in
    absurd (not_zeros c.args.row.now c.row_divisor-divisor.result (positive _ _ (to_z-of_z w128 c.row_divisor-divisor.result fits) c.if-divisor-gt0.true) c.row_divisor-divisor.ensures.common zeros)

pub returns-else-divisor-gt0-clause-divided : goal.returns-else-divisor-gt0-clause-divided
returns-else-divisor-gt0-clause-divided c =
    let found = c.row_divisor-divisor.ensures in
    let fits : FitsSigned w128 c.row_divisor-divisor.result = search rules in
    row_without_divisor c.args.row.now c.row_divisor-divisor.result (not_positive _ _ (to_z-of_z w128 c.row_divisor-divisor.result fits) found.sign c.if-divisor-gt0.false) found.common
