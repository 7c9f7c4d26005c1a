use Rattle.std.proofs.Common.{◌≡◌, ◌^◌, ◌≤◌, ◌∙◌, arith}
use Rattle.std.specs.Prelude.{nat_abs}
use Rattle.std.specs.Int.{w64}
use Rattle.std.proofs.lemmas.Int.{ints, to_z-of_z}
use Rattle.std.proofs.Math.IntN.{*ℤ_comm}
use Rattle.pc_check_rules.proofs.Passing.{scaled_fits, scaled_is, scaled_small}
use Rattle.pc_check_rules.proofs.gains.scaled.Goals as goal

pub overflow_mul-result : goal.overflow_mul-result
overflow_mul-result c =
    let from_is : c.from.result ≡ c.args.number = c.from.ensures ∙ to_z-of_z w64 c.args.number c.ranges.number in
    let small : nat_abs c.args.number ≤ 2 ^ 63 = omega (arith, ints, c.ranges.number.sfits) in
    rw from_is (scaled_fits c.args.value.now.den c.args.number c.requires.positive c.requires.few small)

pub returns-clause-product : goal.returns-clause-product
returns-clause-product c =
    let from_is : c.from.result ≡ c.args.number = c.from.ensures ∙ to_z-of_z w64 c.args.number c.ranges.number in
    let small : nat_abs c.args.number ≤ 2 ^ 63 = omega (arith, ints, c.ranges.number.sfits) in
    rw from_is (scaled_is c.args.value.now.den c.args.number c.requires.positive c.requires.few small)

pub returns-clause-turned : goal.returns-clause-turned
returns-clause-turned c = returns-clause-product c ∙ *ℤ_comm c.args.number c.args.value.now.den

pub returns-clause-small : goal.returns-clause-small
returns-clause-small c =
    let from_is : c.from.result ≡ c.args.number = c.from.ensures ∙ to_z-of_z w64 c.args.number c.ranges.number in
    let small : nat_abs c.args.number ≤ 2 ^ 63 = omega (arith, ints, c.ranges.number.sfits) in
    rw from_is (scaled_small c.args.value.now.den c.args.number c.requires.positive c.requires.few small)
