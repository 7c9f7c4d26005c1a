use Rattle.std.proofs.Common.{◌≡◌, ◌*ℤ◌, to_z, of_z, arith}
use Rattle.std.specs.Int.{w128}
use Rattle.std.proofs.lemmas.Int.{ints}
use Rattle.pc_num.proofs.Signed.{passed}
use Rattle.pc_check_rules.proofs.Comparing.{at_least_decides}
use Rattle.pc_check_rules.proofs.fractions.is_at_least.Goals as goal

pub returns : goal.returns
returns c =
    let value = c.args.value.now in
    let num_is : to_z w128 (of_z w128 c.args.num) ≡ c.args.num = passed c.args.num c.requires.num in
    let den_is : to_z w128 (of_z w128 c.args.den) ≡ c.args.den = passed c.args.den c.requires.den in
    let value_is : to_z w128 (of_z w128 value.num) ≡ value.num = omega (arith, ints, c.requires.measured.small) in
    let value_den_is : to_z w128 (of_z w128 value.den) ≡ value.den = omega (arith, ints, c.requires.measured.few, c.requires.measured.positive) in
    at_least_decides (c.args.num *ℤ value.den) (value.num *ℤ c.args.den) c.is_ge.result c.compare_fractions.result c.is_ge.ensures
    (rw (num_is, den_is, value_is, value_den_is) at c.compare_fractions.ensures)
