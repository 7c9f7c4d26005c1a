use Rattle.std.proofs.Common.{◌≡◌, ◌^◌, ◌≤◌, ◌-ℤ◌, to_z, of_z, arith}
use Rattle.std.specs.Prelude.{nat_abs}
use Rattle.std.specs.Int.{w128}
use Rattle.std.proofs.lemmas.Int.{ints}
use Rattle.pc_check_rules.proofs.bounds.is_total_from.Goals as goal

pub returns-in-Some : goal.returns-in-Some
returns-in-Some c =
    let before = c.args.before in
    let number = c.in-Some.number in
    let small : nat_abs number ≤ 10 ^ 37 = rw c.in-Some.is at c.requires.small in
    let before_is : to_z w128 (of_z w128 before) ≡ before = omega (arith, ints, c.requires.before) in
    let number_is : to_z w128 (of_z w128 number) ≡ number = omega (arith, ints, small) in
    let rest_is : to_z w128 (of_z w128 (before -ℤ number)) ≡ before -ℤ number = omega (arith, ints, c.requires.before, small) in
    rw c.in-Some.is (rw (before_is, number_is, rest_is) at c.is_at_least.ensures)
