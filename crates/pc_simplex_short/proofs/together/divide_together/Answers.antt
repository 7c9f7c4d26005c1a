use Rattle.std.proofs.Common.{◌∙◌, arith, to_z-of_z}
use Rattle.std.proofs.lemmas.Int.{ints}
use Rattle.pc_num.proofs.Signed.{passed}
use Rattle.pc_simplex_short.proofs.Sharing.{all_by, one_by, all_once, one_once}
use Rattle.pc_simplex_short.proofs.together.divide_together.Goals as goal

pub returns-then-divisor-gt1-clause-entries : goal.returns-then-divisor-gt1-clause-entries
returns-then-divisor-gt1-clause-entries c =
    let found = c.divisor_of-divisor.ensures in
    let d = c.divisor_of-divisor.result in
    let value = rw (to_z-of_z c.ranges.weight) at found.value in
    let made = rw (passed d found.fits) at c.divide.ensures in
    made ∙ all_by c.args.weight c.args.entries.now d value

pub returns-then-divisor-gt1-clause-weight : goal.returns-then-divisor-gt1-clause-weight
returns-then-divisor-gt1-clause-weight c =
    let found = c.divisor_of-divisor.ensures in
    let d = c.divisor_of-divisor.result in
    let value = rw (to_z-of_z c.ranges.weight) at found.value in
    let made = rw (to_z-of_z c.ranges.weight, passed d found.fits) at c.quotient.ensures.value in
    passed c.quotient.result c.quotient.ensures.fits ∙ made ∙ one_by c.args.weight c.args.entries.now d value

pub returns-clause-entries : goal.returns-clause-entries
returns-clause-entries c =
    let found = c.divisor_of-divisor.ensures in
    let d = c.divisor_of-divisor.result in
    let value = rw (to_z-of_z c.ranges.weight) at found.value in
    let low = rw (passed d found.fits) at c.if-divisor-gt1.false in
    all_once c.args.weight c.args.entries.now d value (grind (arith, ints, low))

pub returns-clause-weight : goal.returns-clause-weight
returns-clause-weight c =
    let found = c.divisor_of-divisor.ensures in
    let d = c.divisor_of-divisor.result in
    let value = rw (to_z-of_z c.ranges.weight) at found.value in
    let low = rw (passed d found.fits) at c.if-divisor-gt1.false in
    to_z-of_z c.ranges.weight ∙ one_once c.args.weight c.args.entries.now d value (grind (arith, ints, low))
