use Rattle.std.proofs.Common.{◌∙◌, to_z-of_z, All, sym, subst, arith}
use Rattle.std.proofs.lemmas.Int.{ints}
use Rattle.pc_num.proofs.Signed.{passed}
use Rattle.pc_simplex_tableau.specs.Numbers.{combined}
use Rattle.pc_simplex_short.specs.Kept.{IsWithin}
use Rattle.pc_simplex_short.proofs.Reducing.{primitive_by, primitive_once}
use Rattle.pc_simplex_short.proofs.reduce.reduce.Goals as goal

pub returns-then-divisor-gt1-clause-reduced : goal.returns-then-divisor-gt1-clause-reduced
returns-then-divisor-gt1-clause-reduced c true_result =
    let found = c.divisor_of-divisor.ensures in
    let d = c.divisor_of-divisor.result in
    let row = combined c.args.p c.args.row.now c.args.t c.args.other.now in
    let value = rw (to_z-of_z c.ranges.p, to_z-of_z c.ranges.t) at found.value in
    let above = rw (passed d found.fits) at c.if-divisor-gt1.true in
    let made = rw (to_z-of_z c.ranges.p, to_z-of_z c.ranges.t, passed d found.fits) at (c.put_divided.ensures.divided true_result) in
    made ∙ primitive_by row d value (grind (arith, ints, above))

pub returns-clause-reduced : goal.returns-clause-reduced
returns-clause-reduced c true_result =
    let found = c.divisor_of-divisor.ensures in
    let d = c.divisor_of-divisor.result in
    let row = combined c.args.p c.args.row.now c.args.t c.args.other.now in
    let value = rw (to_z-of_z c.ranges.p, to_z-of_z c.ranges.t) at found.value in
    let low = rw (passed d found.fits) at c.if-divisor-gt1.false in
    let made = rw (to_z-of_z c.ranges.p, to_z-of_z c.ranges.t) at (c.put_divided-2.ensures.divided true_result) in
    made ∙ primitive_once row d value (grind (arith, ints, low))

pub returns-then-divisor-gt1-clause-given : goal.returns-then-divisor-gt1-clause-given
returns-then-divisor-gt1-clause-given c small =
    let found = c.divisor_of-divisor.ensures in
    let d = c.divisor_of-divisor.result in
    let row = combined c.args.p c.args.row.now c.args.t c.args.other.now in
    let value = rw (to_z-of_z c.ranges.p, to_z-of_z c.ranges.t) at found.value in
    let above = rw (passed d found.fits) at c.if-divisor-gt1.true in
    let given = rw (to_z-of_z c.ranges.p, to_z-of_z c.ranges.t, passed d found.fits) at c.put_divided.ensures.given in
    given (subst (All (IsWithin 50)) (sym (primitive_by row d value (grind (arith, ints, above)))) small)

pub returns-clause-given : goal.returns-clause-given
returns-clause-given c small =
    let found = c.divisor_of-divisor.ensures in
    let d = c.divisor_of-divisor.result in
    let row = combined c.args.p c.args.row.now c.args.t c.args.other.now in
    let value = rw (to_z-of_z c.ranges.p, to_z-of_z c.ranges.t) at found.value in
    let low = rw (passed d found.fits) at c.if-divisor-gt1.false in
    let given = rw (to_z-of_z c.ranges.p, to_z-of_z c.ranges.t) at c.put_divided-2.ensures.given in
    given (subst (All (IsWithin 50)) (sym (primitive_once row d value (grind (arith, ints, low)))) small)
