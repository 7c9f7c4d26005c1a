use Rattle.std.proofs.Common.{rules, ◌≡◌, drop}
use Rattle.std.specs.Prelude.{Some}
use Rattle.pc_num.specs.Scaled.{after_point}
use Rattle.pc_num.proofs.PlainSizes.{pointed_sizes}
use Rattle.pc_num.proofs.plain.pointed_size.Goals as goal

-- src/plain.rt:30:1
pub returns-clause-plain : goal.returns-clause-plain
returns-clause-plain c =
    let found : after_point (drop c.args.point c.args.number.now) ≡ Some c.in_ok-decimals.decimals.now = search rules in
    pointed_sizes c.args.number.now c.in_ok-decimals.decimals.now c.args.point c.in_ok-before.before c.size_after.result found (rw c.split_at.ensures.front at c.in_ok-before.ensures.some) (rw c.split_at.ensures.front at c.in_ok-before.ensures.digits) (rw c.split_at.ensures.front at c.in_ok-before.ensures.size) c.size_after.ensures.digits c.size_after.ensures.size
